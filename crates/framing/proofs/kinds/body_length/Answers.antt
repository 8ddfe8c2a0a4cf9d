use mathlib.Core.Path.{sym}
use Rattle.framing.proofs.Bodies.{in_table, past-table}
use Rattle.framing.proofs.kinds.body_length.Goals as goal

pub returns-then-kind-lt142 : goal.returns-then-kind-lt142
returns-then-kind-lt142 c = in_table c.args.kind c.if-kind-lt142.true

pub returns-else-kind-lt142 : goal.returns-else-kind-lt142
returns-else-kind-lt142 c = sym (past-table c.args.kind c.if-kind-lt142.false)
