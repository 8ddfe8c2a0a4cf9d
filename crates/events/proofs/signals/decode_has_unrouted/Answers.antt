use mathlib.Core.Path.{ap}
use Rattle.events.specs.Signals.{has_unrouted_of}
use Rattle.events.specs.Types.{OnHasUnrouted}
use Rattle.events.proofs.signals.decode_has_unrouted.Goals as goal

pub returns : goal.returns
unfolding has_unrouted_of
returns c = ap OnHasUnrouted c.u16_at.ensures
