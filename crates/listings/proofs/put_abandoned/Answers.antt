use native.Mathlib.Omega.{arith}
use Rattle.listings.specs.Listings.{abandoned_items}
use Rattle.listings.proofs.Puttings.{put-start, put-turn, put-room, two-count, two-item}
use Rattle.listings.proofs.put_abandoned.Goals as goal

pub loop-i-init : goal.loop-i-init
loop-i-init c =
    let a = c.args in
    put-start (abandoned_items a.xs.now a.n) a.n a.at a.out.now (two-count a.xs.now a.n (omega (arith, c.requires)))

pub put_abandonment-next-requires : goal.put_abandonment-next-requires
put_abandonment-next-requires c =
    let e = two-item c.args.xs.now c.args.n c.loop-i.i (omega (arith, c.requires)) (omega arith) in
    put-room c.loop-i.invariant (omega arith) e c.requires.n_in_bounds_2

pub loop-i-preserved : goal.loop-i-preserved
loop-i-preserved c =
    let e = two-item c.args.xs.now c.args.n c.loop-i.i (omega (arith, c.requires)) (omega arith) in
    put-turn c.loop-i.invariant (omega arith) e c.put_abandonment-next.ensures
