use Rattle.std.specs.Prelude.{None}
use native.Mathlib.Omega.{arith}
use mathlib.Core.Bool.{false}
use Rattle.actions.proofs.Sweeps.{sweep-quiet, sweep-goes, sweep-end}
use Rattle.unrouted.specs.Types.{Failure}
use Rattle.unrouted.proofs.Turns.{row_at, tested, turn-chosen, turn-left}
use Rattle.unrouted.proofs.sweep.Goals as goal

pub loop-i-preserved-then-chosen : goal.loop-i-preserved-then-chosen
loop-i-preserved-then-chosen c =
    let at = c.loop-i in
    let e = tested c.args.which (row_at at.w at.i) c.head.ensures c.chosen.ensures c.if-chosen.true in
    sweep-goes at.invariant false (Failure c.failure.result) None (omega arith) (turn-chosen c.args.which (row_at at.w at.i) e c.failure.ensures)
    c.drop_at-m.ensures.table c.drop_at-m.ensures.tells

pub loop-i-preserved : goal.loop-i-preserved
loop-i-preserved c =
    let at = c.loop-i in
    let e = tested c.args.which (row_at at.w at.i) c.head.ensures c.chosen.ensures c.if-chosen.false in
    sweep-quiet at.invariant (omega arith) (turn-left c.args.which (row_at at.w at.i) e)

pub returns : goal.returns
returns c = sweep-end c.loop-i.invariant (omega arith)
