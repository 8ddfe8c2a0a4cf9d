use mathlib.Core.Path.{ap, ◌∙◌}
use Rattle.records.specs.declared.Unicast.{Unicast}
use Rattle.tables.proofs.UnicastRows.{row}
use Rattle.tables.proofs.unicast_rows.stage.Goals as goal

pub returns : goal.returns
returns c =
    c.stage_of.ensures ∙ ap (λ (u : Unicast). u.stage) (row c.args.w.now c.args.i c.requires)
