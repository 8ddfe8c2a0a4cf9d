use Rattle.records.specs.Records.{unrouted_entry}
use Rattle.tables.specs.Layouts.{unrouted_table}
use Rattle.lent.proofs.Listings.{Listing}
use Rattle.lent.proofs.lists.list_unrouted.Given as goal

abbrev pub invariant-loop-i : goal.invariant-loop-i
invariant-loop-i l = Listing unrouted_table unrouted_entry l.w l.n l.at l.initial.list l.list l.i
