use Rattle.tables.specs.Layouts.{broadcast_layout}
use Rattle.tables.proofs.broadcast_rows.BroadcastRecord.read.Goals as goal

pub returns : goal.returns
unfolding broadcast_layout
returns c = rw (c.priority_of.ensures, c.schedule_of.ensures, c.copy_of.ensures, c.opt_of.ensures)
