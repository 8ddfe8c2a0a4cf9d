-- Each of the first kinds is its own; the rest comes later.
use mathlib.Core.Path.{refl}
use Rattle.framing.specs.Kinds.{body_of}
use Rattle.framing.proofs.Bodies.{enough}
use Rattle.events.specs.Events.{event_of}
use Rattle.events.specs.Signals as sig
use Rattle.steps.proofs.act.Goals as goal

pub u64_at-requires : goal.u64_at-requires
unfolding body_of
u64_at-requires c =
    enough 6 8 c.requires.body_len c.in-6.is refl

pub returns-in-2 : goal.returns-in-2
unfolding event_of
returns-in-2 c = rw c.in-2.is c.on_unicast.ensures

pub returns-in-3 : goal.returns-in-3
unfolding event_of
returns-in-3 c = rw c.in-3.is c.on_copy.ensures

pub returns-in-4 : goal.returns-in-4
unfolding event_of
returns-in-4 c = rw c.in-4.is c.on_unrouted.ensures

pub returns-in-5 : goal.returns-in-5
unfolding event_of
returns-in-5 c = rw c.in-5.is c.on_broadcast.ensures

pub returns-in-6 : goal.returns-in-6
unfolding event_of sig.dequeue_of
returns-in-6 c = rw (c.in-6.is, ← c.u64_at.ensures) c.dequeue.ensures

pub returns-in-7 : goal.returns-in-7
unfolding event_of
returns-in-7 c = rw c.in-7.is c.on_report.ensures

pub returns-in-8 : goal.returns-in-8
unfolding event_of
returns-in-8 c = rw c.in-8.is c.on_poll.ensures

pub returns-in-9 : goal.returns-in-9
unfolding event_of
returns-in-9 c = rw c.in-9.is c.on_ack.ensures

pub on_unicast-requires-clause-in_bounds : goal.on_unicast-requires-clause-in_bounds
unfolding body_of
on_unicast-requires-clause-in_bounds c = enough 2 43 c.requires.body_len c.in-2.is refl

pub on_copy-requires-clause-in_bounds : goal.on_copy-requires-clause-in_bounds
unfolding body_of
on_copy-requires-clause-in_bounds c = enough 3 47 c.requires.body_len c.in-3.is refl

pub on_unrouted-requires-clause-in_bounds : goal.on_unrouted-requires-clause-in_bounds
unfolding body_of
on_unrouted-requires-clause-in_bounds c = enough 4 34 c.requires.body_len c.in-4.is refl

pub on_broadcast-requires-clause-in_bounds : goal.on_broadcast-requires-clause-in_bounds
unfolding body_of
on_broadcast-requires-clause-in_bounds c = enough 5 34 c.requires.body_len c.in-5.is refl

pub on_report-requires-clause-in_bounds : goal.on_report-requires-clause-in_bounds
unfolding body_of
on_report-requires-clause-in_bounds c = enough 7 24 c.requires.body_len c.in-7.is refl

pub on_poll-requires-clause-in_bounds : goal.on_poll-requires-clause-in_bounds
unfolding body_of
on_poll-requires-clause-in_bounds c = enough 8 20 c.requires.body_len c.in-8.is refl

pub on_ack-requires-clause-in_bounds : goal.on_ack-requires-clause-in_bounds
unfolding body_of
on_ack-requires-clause-in_bounds c = enough 9 10 c.requires.body_len c.in-9.is refl
