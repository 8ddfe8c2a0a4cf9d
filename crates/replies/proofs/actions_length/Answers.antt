use native.Mathlib.Omega.{arith}
use mathlib.Core.Path.{ap}
use lib.ListN.{length}
use Rattle.answers.specs.Items.{action_bytes}
use Rattle.answers.proofs.Sizes.{action-short}
use Rattle.replies.specs.Types.{Action}
use Rattle.replies.proofs.Parts.{left-length}
use Rattle.replies.proofs.actions_length.Goals as goal

pub loop-i-preserved : goal.loop-i-preserved
loop-i-preserved c =
    let l = c.loop-i in
    let a = c.args in
    let s = action-short c.action_at.result in
    let e = c.action_length-total.ensures in
    let f = ap (λ (x : Action). length (action_bytes x)) c.action_at.ensures in
    let g = left-length a.told.now a.n l.i (omega arith) in
    (omega arith, omega arith)
