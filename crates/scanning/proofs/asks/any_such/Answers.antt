use Rattle.std.proofs.Common.{rules}
use Rattle.sending.specs.Rules.{sought}
use Rattle.rows.proofs.Chains.{any-is}
use Rattle.scanning.proofs.asks.any_such.Goals as goal

pub returns : goal.returns
returns c = any-is c.requires (sought c.args.what) c.any.ensures.ran (λ x b k e. search rules)
