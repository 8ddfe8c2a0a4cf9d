use mathlib.Core.Path.{ap}
use Rattle.answers.specs.Items.{key_bytes}
use Rattle.answers.proofs.Writings.{written_as}
use Rattle.listings.specs.Listings.{key_item}
use Rattle.listings.proofs.Puttings.{number-room, number-turn}
use Rattle.listings.proofs.put_keys.Goals as goal

pub put_key-next-requires : goal.put_key-next-requires
put_key-next-requires c = number-room key_item c.args.xs.now c.loop-x.invariant c.loop-x-test.true c.requires.n_in_bounds_2

pub loop-x-preserved : goal.loop-x-preserved
loop-x-preserved c = number-turn key_item c.args.xs.now c.loop-x.invariant c.loop-x-test.true (written_as (ap key_bytes c.quorum_of.ensures) c.put_key-next.ensures)
