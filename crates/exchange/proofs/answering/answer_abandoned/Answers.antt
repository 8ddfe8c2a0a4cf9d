-- Nine bytes for each send, then 129.
use native.Mathlib.Omega.{arith}
use Rattle.answers.proofs.Lists.{written-more}
use Rattle.listings.specs.Listings.{abandoned_items}
use Rattle.listings.proofs.Puttings.{abandoned-long}
use Rattle.exchange.specs.Types.{Done}
use Rattle.exchange.proofs.Answers.{no_room, all_fit, done-long}
use Rattle.exchange.proofs.answering.answer_abandoned.Goals as goal

pub returns-then-out-at : goal.returns-then-out-at
returns-then-out-at c =
    let a = c.args in
    let e = abandoned-long a.list.now a.n c.requires.n_in_bounds in
    let f = done-long (abandoned_items a.list.now a.n) in
    no_room c.requires.at_in_bounds (omega (arith, e, f, c.if-out-at.true))

pub put_done-requires : goal.put_done-requires
put_done-requires c =
    let e = abandoned-long c.args.list.now c.args.n c.requires.n_in_bounds in
    let p = c.put_abandoned-last in
    omega (arith, e, p.ensures.next, p.auto.out, c.if-out-at.false, c.requires.at_in_bounds)

pub returns : goal.returns
returns c =
    let is = abandoned_items c.args.list.now c.args.n in
    let e = abandoned-long c.args.list.now c.args.n c.requires.n_in_bounds in
    all_fit c.requires.at_in_bounds (omega (arith, e, done-long is, c.if-out-at.false)) (written-more is Done c.put_abandoned-last.ensures c.put_done.ensures)

pub put_abandoned-last-requires-clause-n_in_bounds_2 : goal.put_abandoned-last-requires-clause-n_in_bounds_2
put_abandoned-last-requires-clause-n_in_bounds_2 c =
    let e = abandoned-long c.args.list.now c.args.n c.requires.n_in_bounds in
    omega (arith, e, c.if-out-at.false, c.requires.at_in_bounds)
