use Rattle.std.proofs.Common.{rules, tests}
use Rattle.rows.proofs.Chains.{find-is}
use Rattle.unrouted.specs.Rules.{goes_to}
use Rattle.unrouted.proofs.first_to.Goals as goal

pub returns : goal.returns
returns c = find-is c.requires (goes_to c.args.destination) _ c.find.ensures.ran (λ x b k e. search (rules, tests))
