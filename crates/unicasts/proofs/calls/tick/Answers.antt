use mathlib.Core.Path.{sym, ◌∙◌}
use Rattle.actions.proofs.Sweeps.{swept_none}
use Rattle.sending.specs.Rules.{stirs}
use Rattle.sending.proofs.Turns.{tick-rests}
use Rattle.unicasts.proofs.calls.tick.Goals as goal

pub returns-else-any_stirs : goal.returns-else-any_stirs
returns-else-any_stirs c =
    swept_none (stirs c.args.clock) (tick-rests c.args.clock) c.requires.held (sym c.any_stirs.ensures ∙ c.if-any_stirs.false)
