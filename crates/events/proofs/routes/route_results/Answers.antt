use mathlib.Core.Path.{◌≡◌, refl, ap, ◌∙◌}
use Rattle.events.specs.Routes.{result_in, results_of}
use native.Mathlib.Omega.{arith}
use lib.ListN.{length-set}
use Rattle.events.proofs.Sixteen.{stored}
use borrow.Author.Rules.{rules}
use Rattle.events.proofs.routes.route_results.Goals as goal

pub loop-i-init : goal.loop-i-init
loop-i-init c = (search rules, refl)

pub loop-i-preserved : goal.loop-i-preserved
loop-i-preserved c = let at = c.loop-i in
    (simp length-set at.invariant.0, stored c.args.b.now at.results _ at.i _ (omega arith) (c.result_in.ensures ∙ ap result_in c.resolved_at.ensures) at.invariant.1)

pub returns : goal.returns
unfolding results_of
returns c = let at = c.loop-i in
    let past : at.i ≡ 16 = omega arith in
    rw past at at.invariant.1
