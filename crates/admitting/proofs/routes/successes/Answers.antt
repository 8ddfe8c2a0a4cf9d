use Rattle.std.proofs.Common.{rules}
use Rattle.admitting.proofs.Routings.{count-by}
use Rattle.admitting.proofs.routes.successes.Goals as goal

pub returns : goal.returns
returns c = rw count-by (search rules)
