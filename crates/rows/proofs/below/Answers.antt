use Prim.Native.Nat.{◌+◌, ◌-◌, ◌/◌}
use native.Mathlib.Omega.{arith}
use Rattle.rows.proofs.Search.{search-le, search-after, search-before}
use Rattle.rows.proofs.below.Goals as goal

pub loop-lo-init : goal.loop-lo-init
loop-lo-init c = omega (arith, search-le c.requires c.args.key)

pub loop-lo-preserved-then-w-mid : goal.loop-lo-preserved-then-w-mid
loop-lo-preserved-then-w-mid c =
    let at = c.loop-lo in
    omega (arith, search-after c.requires c.args.key (at.lo + (at.hi - at.lo) / 2) (omega arith) c.if-w-mid.true)

pub loop-lo-preserved : goal.loop-lo-preserved
loop-lo-preserved c =
    let at = c.loop-lo in
    omega (arith, search-before c.requires c.args.key (at.lo + (at.hi - at.lo) / 2) (omega arith) c.if-w-mid.false)
