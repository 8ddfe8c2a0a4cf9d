use Rattle.listings.specs.Listings.{long_item}
use Rattle.listings.proofs.Puttings.{number-room, number-turn}
use Rattle.listings.proofs.put_longs.Goals as goal

pub put_extended-next-requires : goal.put_extended-next-requires
put_extended-next-requires c = number-room long_item c.args.xs.now c.loop-x.invariant c.loop-x-test.true c.requires.n_in_bounds_2

pub loop-x-preserved : goal.loop-x-preserved
loop-x-preserved c = number-turn long_item c.args.xs.now c.loop-x.invariant c.loop-x-test.true c.put_extended-next.ensures
