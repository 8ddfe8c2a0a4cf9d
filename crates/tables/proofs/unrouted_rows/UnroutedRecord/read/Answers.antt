use Rattle.tables.specs.Layouts.{unrouted_layout}
use Rattle.tables.proofs.unrouted_rows.UnroutedRecord.read.Goals as goal

pub returns : goal.returns
unfolding unrouted_layout
returns c = rw (c.priority_of.ensures, c.confirm_of.ensures)
