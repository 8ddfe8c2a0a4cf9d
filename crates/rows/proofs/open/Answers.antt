use Rattle.std.proofs.Common.{◌≡◌, ℕ, ◌+◌, ◌-◌, ◌*◌, ap, ◌∙◌, arith}
use Rattle.rows.specs.Rows.{moved}
use Rattle.rows.proofs.Sets.{moved_within}
use Rattle.rows.proofs.Search.{split-place, one_more}
use Rattle.rows.proofs.open.Goals as goal

pub returns : goal.returns
returns c =
    let a = c.args in
    let s = split-place a.n a.i a.width c.requires.0 in
    let more = one_more a.n a.width in
    let rest : a.n * a.width - a.i * a.width ≡ (a.n - a.i) * a.width = omega arith in
    c.copy_within.ensures.after ∙ moved_within _ _ _ a.w.now (omega arith) (omega arith) ∙ ap (λ (k : ℕ). moved (a.i * a.width + a.width) (a.i * a.width) k a.w.now) rest
