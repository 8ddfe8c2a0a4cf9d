use mathlib.Core.Path.{ap}
use Rattle.tables.specs.Layouts.{broadcast_head}
use Rattle.tables.proofs.BroadcastRows.{row}
use Rattle.tables.proofs.broadcast_rows.head.Goals as goal

pub returns : goal.returns
returns c =
    rw (c.priority_of.ensures, c.schedule_of.ensures, c.copy_of.ensures) (ap broadcast_head (row c.args.w.now c.args.i c.requires))
