use Rattle.listings.specs.Listings.{destination_item}
use Rattle.listings.proofs.Puttings.{number-room, number-turn}
use Rattle.listings.proofs.put_destinations.Goals as goal

pub put_destination-next-requires : goal.put_destination-next-requires
put_destination-next-requires c = number-room destination_item c.args.xs.now c.loop-x.invariant c.loop-x-test.true c.requires.n_in_bounds_2

pub loop-x-preserved : goal.loop-x-preserved
loop-x-preserved c = number-turn destination_item c.args.xs.now c.loop-x.invariant c.loop-x-test.true c.put_destination-next.ensures
