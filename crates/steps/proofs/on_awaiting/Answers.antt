-- In its form it is its call; else it is Malformed.
use mathlib.Core.Path.{ap}
use Rattle.events.specs.Routes.{results_in}
use Rattle.events.specs.declared.Event.{Event}
use Rattle.model.specs.Model.{lent_model}
use Rattle.doing.proofs.Doings.{does-as, did-as, does-quiet}
use Rattle.steps.specs.Applied.{effect_of}
use Rattle.steps.proofs.Arms.{awaiting-past}
use Rattle.steps.proofs.on_awaiting.Goals as goal

pub returns-in_default : goal.returns-in_default
returns-in_default c =
    does-as (ap (λ (x : Event). effect_of (lent_model c.args.c c.args.w.now c.args.v.now c.args.d.now c.args.b.now) c.args.s x (results_in c.args.body.now)) (awaiting-past c.args.body.now c.decode_has_awaiting-e.ensures c.in_default.not-OnHasAwaiting)) (did-as c.quiet-in_default.ensures (does-quiet c.requires.sound_tables _ _))
