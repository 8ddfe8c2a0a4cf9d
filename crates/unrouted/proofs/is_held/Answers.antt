use mathlib.Core.Path.{◌∙◌}
use Rattle.rows.specs.Tables.{live}
use Rattle.tables.specs.Layouts.{destination_table}
use Rattle.unrouted.proofs.Lists.{held-is}
use Rattle.unrouted.proofs.is_held.Goals as goal

pub returns : goal.returns
returns c = c.is_some.ensures ∙ held-is c.args.destination (live destination_table c.args.d.now c.args.k) c.find.ensures
