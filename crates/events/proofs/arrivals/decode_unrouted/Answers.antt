use mathlib.Core.Path.{ap, ◌∙◌}
use Rattle.fields.specs.Parts.{priority_by}
use Rattle.events.specs.Arrivals.{unrouted_with, unrouted_of}
use Rattle.events.proofs.arrivals.decode_unrouted.Goals as goal

pub returns : goal.returns
unfolding unrouted_of
returns c = let p = c.priority_by-level.ensures ∙ ap priority_by c.byte_at.ensures in
    c.unrouted_with.ensures ∙ (λ k. unrouted_with (c.u64_at-clock.ensures k) (c.u32_at-frame.ensures k) (c.u32_at-waiter.ensures k) (c.u16_at-destination.ensures k) (p k) (c.confirm_at-settling.ensures k))
