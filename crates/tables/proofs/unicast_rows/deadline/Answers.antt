use mathlib.Core.Path.{ap}
use Rattle.records.specs.declared.Unicast.{Unicast}
use Rattle.tables.proofs.UnicastRows.{row}
use Rattle.tables.proofs.unicast_rows.deadline.Goals as goal

pub returns : goal.returns
returns c = ap (λ (u : Unicast). u.deadline) (row c.args.w.now c.args.i c.requires)
