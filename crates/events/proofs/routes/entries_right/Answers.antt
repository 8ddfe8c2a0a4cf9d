use mathlib.Core.Path.{refl, ◌∙◌}
use borrow.Author.Rules.{rules}
use borrow.Author.Tests.{tests}
use Rattle.std.proofs.lemmas.Iterator.{YieldsList-from_range}
use Rattle.std.proofs.lemmas.Iterator.Search.{all_from_yields_List}
use Rattle.events.specs.Routes.{entry_right}
use Rattle.events.proofs.Sixteen.{each-right}
use Rattle.events.proofs.routes.entries_right.Goals as goal

pub returns : goal.returns
returns c =
    all_from_yields_List (entry_right c.args.b.now c.args.count) _ _ _ c.all.ensures.ran (YieldsList-from_range 0 16 16 refl refl) (λ x b q k. search (rules, tests))
    ∙ each-right c.args.b.now c.args.count 0 16
