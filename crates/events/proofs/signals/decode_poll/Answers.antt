use mathlib.Core.Path.{ap₂, ◌∙◌}
use Rattle.fields.specs.Parts.{opt16_by, opt64_by}
use Rattle.events.specs.Signals.{poll_with, poll_of}
use Rattle.events.proofs.signals.decode_poll.Goals as goal

pub returns : goal.returns
unfolding poll_of
returns c = let e = c.opt64_by-extended.ensures ∙ ap₂ opt64_by c.byte_at.ensures c.u64_at.ensures in
    let s = c.opt16_by-short.ensures ∙ ap₂ opt16_by c.byte_at-2.ensures c.u16_at.ensures in
    c.poll_with.ensures ∙ (λ k. poll_with (c.u64_at-clock.ensures k) (e k) (s k))
