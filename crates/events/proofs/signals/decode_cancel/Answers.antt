use mathlib.Core.Path.{ap}
use Rattle.events.specs.Signals.{cancel_of}
use Rattle.events.specs.Types.{OnCancel}
use Rattle.events.proofs.signals.decode_cancel.Goals as goal

pub returns : goal.returns
unfolding cancel_of
returns c = ap OnCancel c.u32_at.ensures
