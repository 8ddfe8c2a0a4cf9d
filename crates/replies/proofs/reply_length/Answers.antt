-- The lengths of the parts added up; small enough for the sums to fit.
use native.Mathlib.Omega.{arith}
use mathlib.Core.Path.{sym, ◌∙◌}
use Rattle.replies.specs.Replies.{acts_of}
use Rattle.replies.proofs.Parts.{answer-short, actions-short, reply-long}
use borrow.Author.Rules.{rules}
use Rattle.replies.proofs.reply_length.Goals as goal

pub overflow_add-result : goal.overflow_add-result
overflow_add-result c =
    let x = answer-short c.args.a in
    let y = actions-short c.args.told.now 0 c.args.n in
    let e = c.answer_length-first.ensures in
    let f = c.actions_length-second.ensures in
    search rules

pub overflow_add-result-2 : goal.overflow_add-result-2
overflow_add-result-2 c =
    let x = answer-short c.args.a in
    let y = actions-short c.args.told.now 0 c.args.n in
    let e = c.answer_length-first.ensures in
    let f = c.actions_length-second.ensures in
    search rules

pub returns : goal.returns
returns c =
    let e = c.answer_length-first.ensures in
    let f = c.actions_length-second.ensures in
    let g = reply-long c.args.a (acts_of c.args.told.now c.args.n) (sym c.refuses.ensures ∙ c.if-refuses.false) in
    omega arith
