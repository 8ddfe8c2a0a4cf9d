use mathlib.Core.Path.{sym, ◌∙◌}
use Rattle.actions.proofs.Sweeps.{swept_none}
use Rattle.casting.specs.Rules.{may_stir}
use Rattle.casting.proofs.Ticks.{rests}
use Rattle.broadcasts.proofs.moves.tick.Goals as goal

pub returns : goal.returns
returns c =
    swept_none (may_stir c.args.clock) (rests c.args.clock) c.requires.held (sym c.any_stirs.ensures ∙ c.if-any_stirs.false)
