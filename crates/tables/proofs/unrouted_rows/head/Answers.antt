use mathlib.Core.Path.{ap}
use Rattle.tables.specs.Layouts.{unrouted_head}
use Rattle.tables.proofs.UnroutedRows.{row}
use Rattle.tables.proofs.unrouted_rows.head.Goals as goal

pub returns : goal.returns
returns c = ap unrouted_head (row c.args.w.now c.args.i c.requires)
