use Rattle.events.specs.Signals.{delivered_of}
use Rattle.events.specs.Types.{OnDelivered}
use Rattle.events.proofs.signals.decode_delivered.Goals as goal

pub returns : goal.returns
unfolding delivered_of
returns c = λ k. OnDelivered (record { src = c.u16_at-src.ensures k; sequence = c.byte_at-sequence.ensures k })
