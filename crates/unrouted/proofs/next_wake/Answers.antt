use Rattle.std.specs.Prelude.{Option, None, ℕ}
use Rattle.std.proofs.Common.{rules, tests}
use Rattle.records.specs.Times.{sooner}
use Rattle.rows.proofs.Chains.{fold-is}
use Rattle.unrouted.specs.Types.{Unrouted}
use Rattle.unrouted.proofs.next_wake.Goals as goal

pub returns : goal.returns
returns c =
    fold-is c.requires (λ (u : Unrouted) (o : Option ℕ). sooner u.deadline o) None c.rev.ensures.source c.fold.ensures.ran (λ a x b k e. search (rules, tests))
