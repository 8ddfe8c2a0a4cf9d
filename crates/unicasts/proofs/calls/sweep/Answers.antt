use Rattle.std.specs.Prelude.{None}
use Rattle.sending.specs.Rules.{with_stage}
use Rattle.sending.specs.Types.{Failure, Queued}
use Rattle.sending.specs.declared.Due.TheVariants.{Leave, Requeue, Finish}
use Rattle.actions.proofs.Sweeps.{sweep-quiet, sweep-stays, sweep-goes, sweep-end}
use Rattle.scanning.proofs.Scans.{row_at}
use Rattle.sending.proofs.Turns.{due-is}
use native.Mathlib.Omega.{arith}
use Rattle.unicasts.proofs.calls.sweep.Goals as goal

pub loop-i-preserved-in-Leave : goal.loop-i-preserved-in-Leave
loop-i-preserved-in-Leave c =
    let at = c.loop-i in
    sweep-quiet at.invariant (omega arith) (due-is c.args.which (row_at at.w at.i) Leave c.head.ensures c.due_of.ensures c.in-Leave.is)

pub loop-i-preserved-in-Requeue : goal.loop-i-preserved-in-Requeue
loop-i-preserved-in-Requeue c =
    let at = c.loop-i in
    sweep-stays at.invariant (with_stage (row_at at.w at.i) Queued) (omega arith)
    (due-is c.args.which (row_at at.w at.i) Requeue c.head.ensures c.due_of.ensures c.in-Requeue.is) c.requeue.ensures

pub loop-i-preserved : goal.loop-i-preserved
loop-i-preserved c =
    let at = c.loop-i in
    sweep-goes at.invariant c.in-Finish.again (Failure c.in-Finish.f) None (omega arith)
    (due-is c.args.which (row_at at.w at.i) (Finish c.in-Finish.again c.in-Finish.f) c.head.ensures c.due_of.ensures c.in-Finish.is)
    c.finish-m.ensures.table c.finish-m.ensures.tells

pub returns : goal.returns
returns c = sweep-end c.loop-i.invariant (omega arith)
