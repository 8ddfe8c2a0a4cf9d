use Rattle.records.specs.Records.{unicast_entry}
use Rattle.tables.specs.Layouts.{unicast_table}
use Rattle.lent.proofs.Listings.{Listing}
use Rattle.lent.proofs.lists.list_unicasts.Given as goal

abbrev pub invariant-loop-i : goal.invariant-loop-i
invariant-loop-i l = Listing unicast_table unicast_entry l.w l.n l.at l.initial.list l.list l.i
