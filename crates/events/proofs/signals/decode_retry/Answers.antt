use mathlib.Core.Path.{ap}
use Rattle.events.specs.Signals.{retry_of}
use Rattle.events.specs.Types.{OnRetry}
use Rattle.events.proofs.signals.decode_retry.Goals as goal

pub returns : goal.returns
unfolding retry_of
returns c = ap OnRetry c.u16_at.ensures
