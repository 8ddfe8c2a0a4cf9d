use Rattle.std.proofs.Common.{rules}
use Rattle.replay.specs.Cases.{four_in}
use Rattle.replay.proofs.cases.four_in.Goals as goal

pub returns-clause-value : goal.returns-clause-value
unfolding four_in
returns-clause-value c = search rules
