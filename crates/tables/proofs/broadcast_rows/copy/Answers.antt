use mathlib.Core.Path.{ap, ◌∙◌}
use Rattle.records.specs.declared.Broadcast.{Broadcast}
use Rattle.tables.proofs.BroadcastRows.{row}
use Rattle.tables.proofs.broadcast_rows.copy.Goals as goal

pub returns : goal.returns
returns c =
    c.copy_of.ensures ∙ ap (λ (b : Broadcast). b.copy) (row c.args.w.now c.args.i c.requires)
