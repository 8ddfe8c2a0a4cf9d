use Rattle.listings.specs.Listings.{short_item}
use Rattle.listings.proofs.Puttings.{number-room, number-turn}
use Rattle.listings.proofs.put_shorts.Goals as goal

pub put_short-next-requires : goal.put_short-next-requires
put_short-next-requires c = number-room short_item c.args.xs.now c.loop-x.invariant c.loop-x-test.true c.requires.n_in_bounds_2

pub loop-x-preserved : goal.loop-x-preserved
loop-x-preserved c = number-turn short_item c.args.xs.now c.loop-x.invariant c.loop-x-test.true c.put_short-next.ensures
