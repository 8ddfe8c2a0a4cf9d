use mathlib.Core.Path.{ap, ◌∙◌}
use Rattle.records.specs.declared.Unicast.{Unicast}
use Rattle.tables.proofs.UnicastRows.{row}
use Rattle.tables.proofs.unicast_rows.confirm.Goals as goal

pub returns : goal.returns
returns c =
    c.confirm_of.ensures ∙ ap (λ (u : Unicast). u.confirm) (row c.args.w.now c.args.i c.requires)
