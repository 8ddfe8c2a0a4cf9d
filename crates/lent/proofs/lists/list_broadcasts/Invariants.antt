use Rattle.records.specs.Records.{broadcast_entry}
use Rattle.tables.specs.Layouts.{broadcast_table}
use Rattle.lent.proofs.Listings.{Listing}
use Rattle.lent.proofs.lists.list_broadcasts.Given as goal

abbrev pub invariant-loop-i : goal.invariant-loop-i
invariant-loop-i l = Listing broadcast_table broadcast_entry l.w l.n l.at l.initial.list l.list l.i
