use mathlib.Core.Path.{ap, ap₂, ◌∙◌}
use Rattle.fields.specs.Parts.{lender_by, result_by}
use Rattle.events.specs.Signals.{report_with, report_of}
use Rattle.events.proofs.signals.decode_report.Goals as goal

pub returns : goal.returns
unfolding report_of
returns c = let l = c.lender_by-lender.ensures ∙ ap lender_by c.byte_at.ensures in
    let x = c.result_by-outcome.ensures ∙ ap₂ result_by c.byte_at-2.ensures c.u16_at.ensures in
    c.report_with.ensures ∙ (λ k. report_with (l k) (c.u32_at-id.ensures k) (c.u32_at-frame.ensures k) (x k) (c.u64_at-clock.ensures k) (c.u32_at-delay.ensures k))
