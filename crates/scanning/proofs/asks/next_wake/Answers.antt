use Rattle.std.specs.Prelude.{None}
use Rattle.std.proofs.Common.{rules}
use Rattle.sending.specs.Lists.{wake_step}
use Rattle.rows.proofs.Chains.{fold-is}
use Rattle.scanning.proofs.asks.next_wake.Goals as goal

pub returns : goal.returns
returns c = fold-is c.requires wake_step None c.rev.ensures.source c.fold.ensures.ran (λ a x b k e. search rules)
