use mathlib.Core.Path.{ap}
use Rattle.records.specs.declared.Broadcast.{Broadcast}
use Rattle.tables.proofs.BroadcastRows.{row}
use Rattle.tables.proofs.broadcast_rows.deadline.Goals as goal

pub returns : goal.returns
returns c = ap (λ (b : Broadcast). b.deadline) (row c.args.w.now c.args.i c.requires)
