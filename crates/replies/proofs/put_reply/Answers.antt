-- The answer, the actions and 129 in turn; a refusal stands alone.
use native.Mathlib.Omega.{arith}
use mathlib.Core.Path.{sym, ◌∙◌}
use Rattle.answers.proofs.Writings.{written-append, written_as}
use Rattle.replies.specs.Replies.{acts_of}
use Rattle.replies.proofs.Parts.{reply-whole, reply-long}
use Rattle.replies.proofs.put_reply.Goals as goal

pub put_actions-third-requires : goal.put_actions-third-requires
put_actions-third-requires c =
    let a = c.args in
    let g = reply-long a.a (acts_of a.told.now a.n) (sym c.refuses.ensures ∙ c.if-refuses.false) in
    let p = c.requires.1 in
    let l = c.put_answer-second.auto.out in
    let n = c.put_answer-second.ensures.next in
    (c.requires.0, omega arith)

pub put_done-requires : goal.put_done-requires
put_done-requires c =
    let a = c.args in
    let g = reply-long a.a (acts_of a.told.now a.n) (sym c.refuses.ensures ∙ c.if-refuses.false) in
    let p = c.requires.1 in
    let l = c.put_answer-second.auto.out in
    let n = c.put_answer-second.ensures.next in
    let k = c.put_actions-third.auto.out in
    let m = c.put_actions-third.ensures.next in
    omega arith

pub returns : goal.returns
returns c =
    let a = c.args in
    let e = sym c.refuses.ensures ∙ c.if-refuses.false in
    written_as (sym (reply-whole a.a (acts_of a.told.now a.n) e))
    (written-append c.put_answer-second.ensures (written-append c.put_actions-third.ensures c.put_done.ensures))
