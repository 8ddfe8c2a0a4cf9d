use Rattle.tables.specs.Layouts.{unicast_layout}
use Rattle.tables.proofs.unicast_rows.UnicastRecord.read.Goals as goal

pub returns : goal.returns
unfolding unicast_layout
returns c = rw (c.priority_of.ensures, c.confirm_of.ensures, c.address_of.ensures, c.stage_of.ensures, c.opt_of.ensures)
