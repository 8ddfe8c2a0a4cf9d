-- Whether the destination is held.
use mathlib.Core.Path.{ap, ◌∙◌}
use mathlib.Core.Bool.{Bool}
use Rattle.doing.specs.Parts.{quietly}
use Rattle.model.specs.declared.Answer.TheVariants.{Replied}
use Rattle.events.specs.Signals.{has_unrouted_of}
use Rattle.doing.proofs.Doings.{did-as, does-quiet}
use Rattle.steps.proofs.on_held.Goals as goal

pub returns : goal.returns
unfolding has_unrouted_of
returns c =
    rw (← c.u16_at.ensures) (did-as (c.quiet.ensures ∙ ap (λ (x : Bool). quietly c.args.c (Replied x)) c.is_held-x.ensures) (does-quiet c.requires.sound_tables _ _))
