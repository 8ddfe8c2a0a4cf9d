use Rattle.std.proofs.Common.{rules, tests}
use Rattle.rows.proofs.Chains.{any-is}
use Rattle.casting.specs.Rules.{may_stir}
use Rattle.broadcasts.proofs.asks.any_stirs.Goals as goal

pub returns : goal.returns
returns c = any-is c.requires (may_stir c.args.clock) c.any.ensures.ran (λ x b k e. search (rules, tests))
