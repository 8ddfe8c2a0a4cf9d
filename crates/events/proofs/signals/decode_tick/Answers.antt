use mathlib.Core.Path.{ap}
use Rattle.events.specs.Signals.{tick_of}
use Rattle.events.specs.Types.{OnTick}
use Rattle.events.proofs.signals.decode_tick.Goals as goal

pub returns : goal.returns
unfolding tick_of
returns c = ap OnTick c.u64_at.ensures
