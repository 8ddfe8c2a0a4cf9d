use Rattle.std.specs.Prelude.{None}
use Rattle.std.proofs.Common.{rules}
use Rattle.sending.specs.Lists.{best_step}
use Rattle.rows.proofs.Chains.{fold-is}
use Rattle.scanning.proofs.asks.best_queued.Goals as goal

pub returns : goal.returns
returns c = fold-is c.requires (best_step c.args.clock) None c.rev.ensures.source c.fold.ensures.ran (λ a x b k e. search rules)
