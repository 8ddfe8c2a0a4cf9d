use Rattle.events.specs.Arrivals.{unicast_of}
use Rattle.events.specs.Types.{OnUnicast}
use Rattle.events.proofs.arrivals.decode_unicast.Goals as goal

pub returns-in-Some : goal.returns-in-Some
unfolding unicast_of
returns-in-Some c = rw (← c.unicast_at.ensures, c.in-Some.is) (λ k. OnUnicast (c.u64_at-clock.ensures k) c.in-Some.u)

pub returns-in-None : goal.returns-in-None
unfolding unicast_of
returns-in-None c = rw (← c.unicast_at.ensures, c.in-None.is)
