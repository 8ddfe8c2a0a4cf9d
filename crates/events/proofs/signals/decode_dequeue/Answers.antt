use mathlib.Core.Path.{ap}
use Rattle.events.specs.Signals.{dequeue_of}
use Rattle.events.specs.Types.{OnDequeue}
use Rattle.events.proofs.signals.decode_dequeue.Goals as goal

pub returns : goal.returns
unfolding dequeue_of
returns c = ap OnDequeue c.u64_at.ensures
