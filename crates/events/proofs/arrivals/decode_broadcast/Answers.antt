use mathlib.Core.Path.{ap, ◌∙◌}
use Rattle.fields.specs.Parts.{priority_by}
use Rattle.events.specs.Arrivals.{broadcast_with, broadcast_of}
use Rattle.events.proofs.arrivals.decode_broadcast.Goals as goal

pub returns : goal.returns
unfolding broadcast_of
returns c = let p = c.priority_by-level.ensures ∙ ap priority_by c.byte_at.ensures in
    c.broadcast_with.ensures ∙ (λ k. broadcast_with (c.u64_at-clock.ensures k) (c.u32_at-frame.ensures k) (c.u32_at-waiter.ensures k) (p k) (c.schedule_at-plan.ensures k))
