use native.Mathlib.Omega.{arith}
use mathlib.Core.Path.{◌∙◌}
use Rattle.fields.proofs.Zeros.{zeros}
use Rattle.fields.proofs.parts.blank_at.Goals as goal

pub returns : goal.returns
returns c = c.eq.ensures ∙ zeros c.args.at c.args.b.now (omega arith) _ _ _ c.u64_at-first.ensures c.u32_at-second.ensures c.u16_at-third.ensures
