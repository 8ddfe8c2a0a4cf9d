use Rattle.std.proofs.Common.{rules, tests}
use Rattle.rows.proofs.Chains.{any-is}
use Rattle.unrouted.specs.Rules.{goes_to}
use Rattle.unrouted.proofs.waits.Goals as goal

pub returns : goal.returns
returns c = any-is c.requires (goes_to c.args.destination) c.any.ensures.ran (λ x b k e. search (rules, tests))
