use Rattle.std.proofs.Common.{rules}
use Rattle.sending.specs.Rules.{stirs}
use Rattle.rows.proofs.Chains.{any-is}
use Rattle.scanning.proofs.asks.any_stirs.Goals as goal

pub returns : goal.returns
returns c = any-is c.requires (stirs c.args.clock) c.any.ensures.ran (λ x b k e. search rules)
