use Rattle.broadcasts.proofs.Found.{missed-is, found_lt, found-is}
use Rattle.casting.specs.Rules.{in_radio, in_radio_by}
use Rattle.casting.specs.Types.{BroadcastHead}
use native.Mathlib.Omega.{arith}
use mathlib.Core.Path.{refl, sym, ap, ◌∙◌}
use Rattle.broadcasts.proofs.asks.is_transmitting.Goals as goal

pub head-h-requires : goal.head-h-requires
head-h-requires c = omega (arith, found_lt c.requires _ (sym c.in-Some.is ∙ c.find.ensures), c.requires.within)

pub returns-in-None : goal.returns-in-None
returns-in-None c = sym (ap in_radio_by (missed-is c.requires _ (sym c.in-None.is ∙ c.find.ensures)))

pub returns-in-Some : goal.returns-in-Some
returns-in-Some c =
    c.in_radio.ensures ∙ ap (λ (h : BroadcastHead). in_radio h.copy) c.head-h.ensures
    ∙ sym (ap in_radio_by (found-is c.requires _ (sym c.in-Some.is ∙ c.find.ensures) refl))
