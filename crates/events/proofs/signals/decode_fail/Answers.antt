use mathlib.Core.Path.{ap}
use Rattle.events.specs.Signals.{fail_of}
use Rattle.events.specs.Types.{OnFail}
use Rattle.events.proofs.signals.decode_fail.Goals as goal

pub returns : goal.returns
unfolding fail_of
returns c = ap OnFail c.u16_at.ensures
