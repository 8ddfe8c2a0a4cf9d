use Rattle.admitting.proofs.Routings.{Routing}
use Rattle.admitting.proofs.routes.route_all.Given as goal

abbrev pub invariant-loop-i : goal.invariant-loop-i
invariant-loop-i l =
    Routing l.s l.destination l.clock l.results l.count l.initial.w l.unicasts l.initial.v l.sends l.initial.told l.at l.w l.n l.v l.k l.told l.m l.i
