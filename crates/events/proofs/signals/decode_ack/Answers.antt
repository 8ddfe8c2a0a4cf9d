use Rattle.events.specs.Signals.{ack_of}
use Rattle.events.proofs.signals.decode_ack.Goals as goal

pub returns-in-Some : goal.returns-in-Some
unfolding ack_of
returns-in-Some c = rw (← c.key_at.ensures, c.in-Some.is)

pub returns-in-None : goal.returns-in-None
unfolding ack_of
returns-in-None c = rw (← c.key_at.ensures, c.in-None.is)
