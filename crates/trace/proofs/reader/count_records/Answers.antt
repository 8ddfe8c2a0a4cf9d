use native.Mathlib.Omega.{arith}
use mathlib.Core.Path.{sym}
use Rattle.framing.proofs.Reading.{stood}
use Rattle.trace.proofs.Counting.{start, go_on, stop}
use Rattle.trace.proofs.reader.count_records.Goals as goal

pub loop-next-init : goal.loop-next-init
loop-next-init c = start c.args.trace.now

pub loop-next-smaller : goal.loop-next-smaller
loop-next-smaller c =
    let p = stood c.args.trace.now _ _ _ _ (sym c.in-Record.ensures) in
    let i = p.inside in
    let j = p.next-is in
    omega arith

pub loop-next-preserved : goal.loop-next-preserved
loop-next-preserved c = go_on c.args.trace.now _ _ _ _ _ (sym c.in-Record.ensures) c.loop-next.invariant

pub returns : goal.returns
returns c = stop _ _ _ c.standing_at.result c.in_default.not-Record c.standing_at.ensures c.loop-next.invariant
