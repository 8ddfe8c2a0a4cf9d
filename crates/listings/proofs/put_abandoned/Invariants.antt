-- Writing what is left of the items, from here, gives the whole.
use Rattle.listings.specs.Listings.{abandoned_items}
use Rattle.listings.proofs.Puttings.{Putting}
use Rattle.listings.proofs.put_abandoned.Given as goal

abbrev pub invariant-loop-i : goal.invariant-loop-i
invariant-loop-i l = Putting (abandoned_items l.xs l.n) l.n l.at l.initial.out l.out l.next l.i
