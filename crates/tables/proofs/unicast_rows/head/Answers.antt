use mathlib.Core.Path.{ap}
use Rattle.tables.specs.Layouts.{unicast_head}
use Rattle.tables.proofs.UnicastRows.{row}
use Rattle.tables.proofs.unicast_rows.head.Goals as goal

pub returns : goal.returns
returns c =
    rw (c.priority_of.ensures, c.address_of.ensures, c.stage_of.ensures, c.opt_of.ensures) (ap unicast_head (row c.args.w.now c.args.i c.requires))
