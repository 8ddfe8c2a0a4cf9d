use mathlib.Core.Path.{◌∙◌}
use Rattle.std.proofs.Common.{rules, tests, arith}
use Rattle.std.proofs.lemmas.Iterator.{YieldsList-from_range}
use Rattle.std.proofs.lemmas.Iterator.Consumers.{YieldsList-from_filter, count_from_yields_List}
use Rattle.rows.proofs.Chains.{count-places}
use Rattle.unrouted.specs.Rules.{left_to}
use Rattle.unrouted.proofs.Turns.{row_at}
use Rattle.unrouted.proofs.left_to.Goals as goal

pub returns : goal.returns
returns c =
    let a = c.args in
    count_from_yields_List _ _ c.count.ensures.ran
    (YieldsList-from_filter _ (λ k. left_to a.clock a.destination (row_at a.w.now k)) (YieldsList-from_range 0 a.n a.n c.filter.ensures.source (omega arith)) c.filter.ensures.closure (λ x b q k. search (rules, tests)))
    ∙ count-places c.requires (left_to a.clock a.destination)
