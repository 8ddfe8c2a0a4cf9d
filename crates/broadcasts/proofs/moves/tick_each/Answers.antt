use Rattle.casting.proofs.Scans.{row_at, stirs-tested}
use Rattle.broadcasts.proofs.Plays.{played-count, sweep-played}
use Rattle.casting.proofs.Ticks.{quiet}
use Rattle.casting.specs.Rules.{tick_turn}
use Rattle.actions.proofs.Sweeps.{sweep-quiet, sweep-end}
use native.Mathlib.Omega.{arith}
use Rattle.broadcasts.proofs.moves.tick_each.Goals as goal

pub overflow_sub-i : goal.overflow_sub-i
overflow_sub-i c =
    let at = c.loop-i in
    omega (arith, (played-count at.invariant.held (omega arith) (tick_turn c.args.clock (row_at at.w at.i)) c.tick_at-c.ensures).1)

pub loop-i-preserved-then-stirs : goal.loop-i-preserved-then-stirs
loop-i-preserved-then-stirs c = sweep-played c.loop-i.invariant (omega arith) c.tick_at-c.ensures

pub loop-i-preserved : goal.loop-i-preserved
loop-i-preserved c =
    let at = c.loop-i in
    sweep-quiet at.invariant (omega arith) (quiet c.args.clock (row_at at.w at.i) (stirs-tested (row_at at.w at.i) c.head.ensures c.args.clock c.stirs.ensures c.if-stirs.false))

pub returns : goal.returns
returns c = sweep-end c.loop-i.invariant (omega arith)
