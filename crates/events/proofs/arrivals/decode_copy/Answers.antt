use Rattle.events.specs.Arrivals.{copy_of}
use Rattle.events.specs.Types.{OnCopy}
use Rattle.events.proofs.arrivals.decode_copy.Goals as goal

pub returns-in-Some : goal.returns-in-Some
unfolding copy_of
returns-in-Some c = rw (← c.unicast_at.ensures, c.in-Some.is) (λ k. OnCopy (c.u32_at-id.ensures k) (c.u64_at-clock.ensures k) c.in-Some.u)

pub returns-in-None : goal.returns-in-None
unfolding copy_of
returns-in-None c = rw (← c.unicast_at.ensures, c.in-None.is)
