use mathlib.Core.Path.{◌≡◌}
use Rattle.events.specs.Routes.{results_from}
use Prim.Native.Nat.{◌-◌}
use lib.Seq.{sets}
use lib.ListN.{length}
use Rattle.events.proofs.routes.route_results.Given as goal

abbrev pub invariant-loop-i : goal.invariant-loop-i
invariant-loop-i l = (length l.results ≡ 16) × (sets l.results l.i (results_from l.b l.i (16 - l.i)) ≡ sets l.initial.results 0 (results_from l.b 0 16))
