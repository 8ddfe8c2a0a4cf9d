-- Writing what is left of the items, from here, gives the whole.
use Rattle.listings.specs.Listings.{long_items}
use Rattle.listings.proofs.Puttings.{Putting}
use Rattle.listings.proofs.put_longs.Given as goal

abbrev pub invariant-loop-x : goal.invariant-loop-x
invariant-loop-x l = Putting (long_items l.xs l.n) l.n l.at l.initial.out l.out l.next l.x-index
