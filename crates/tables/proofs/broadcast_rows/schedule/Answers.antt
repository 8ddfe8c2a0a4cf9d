use mathlib.Core.Path.{ap, ◌∙◌}
use Rattle.records.specs.declared.Broadcast.{Broadcast}
use Rattle.tables.proofs.BroadcastRows.{row}
use Rattle.tables.proofs.broadcast_rows.schedule.Goals as goal

pub returns : goal.returns
returns c =
    c.schedule_of.ensures ∙ ap (λ (b : Broadcast). b.schedule) (row c.args.w.now c.args.i c.requires)
