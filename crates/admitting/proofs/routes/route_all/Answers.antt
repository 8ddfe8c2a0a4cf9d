use mathlib.Core.Path.{refl}
use native.Mathlib.Omega.{arith}
use Rattle.admitting.proofs.Routings.{route-free, route-some, route-turn, route-end}
use Rattle.admitting.proofs.routes.route_all.Goals as goal

pub unreachable-requires : goal.unreachable-requires
unreachable-requires c =
    let at = c.loop-i in
    route-some at.invariant c.requires.routable.there (omega arith) c.take.ensures c.in_default.is

pub loop-i-preserved : goal.loop-i-preserved
loop-i-preserved c =
    let at = c.loop-i in
    route-turn at.invariant c.requires.routable.there _ _ (omega arith) c.take.ensures c.in-Some.is c.route_one-x.ensures

pub returns : goal.returns
returns c =
    route-end c.loop-i.invariant c.requires.routable.there (omega arith) refl refl refl

pub route_one-x-requires-clause-x_bound : goal.route_one-x-requires-clause-x_bound
route_one-x-requires-clause-x_bound c =
    let at = c.loop-i in
    route-free at.invariant c.requires.routable.there _ (omega arith)
