use Rattle.std.proofs.Common.{rules, tests}
use Rattle.rows.proofs.Chains.{find-is}
use Rattle.casting.specs.Rules.{keyed}
use Rattle.broadcasts.proofs.moves.first_keyed.Goals as goal

pub returns : goal.returns
returns c = find-is c.requires (keyed c.args.key) _ c.find.ensures.ran (λ x b k e. search (rules, tests))
