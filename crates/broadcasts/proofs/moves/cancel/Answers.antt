use Rattle.broadcasts.proofs.Found.{cancel-in, cancel-out, missed-answer, found_lt, barred, done}
use Rattle.broadcasts.proofs.Plays.{plays}
use Rattle.casting.proofs.Entries.{same-cancel}
use Rattle.casting.specs.Rules.{cancel_turn}
use native.Mathlib.Omega.{arith}
use mathlib.Core.Path.{refl, sym, ◌∙◌}
use Rattle.broadcasts.proofs.moves.cancel.Goals as goal

pub load-u-requires : goal.load-u-requires
load-u-requires c = omega (arith, found_lt c.requires.held _ (sym c.in-Some.is ∙ c.find.ensures), c.requires.held.within)

pub returns-then-in_radio : goal.returns-then-in_radio
returns-then-in_radio c = barred c.requires.held _ (sym c.in-Some.is ∙ c.find.ensures) c.load-u.ensures (cancel-in c.load-u.result (sym c.in_radio.ensures ∙ c.if-in_radio.true))

pub returns-in-None : goal.returns-in-None
returns-in-None c = missed-answer c.requires.held _ (sym c.in-None.is ∙ c.find.ensures) refl

pub returns-else-in_radio : goal.returns-else-in_radio
returns-else-in_radio c = done c.requires.held _ (sym c.in-Some.is ∙ c.find.ensures) c.load-u.ensures cancel_turn (cancel-out c.load-u.result (sym c.in_radio.ensures ∙ c.if-in_radio.false)) c.cancel-t.ensures c.play.ensures

pub play-requires-clause-plays : goal.play-requires-clause-plays
play-requires-clause-plays c = plays cancel_turn c.load-u.ensures c.cancel-t.ensures (found_lt c.requires.held _ (sym c.in-Some.is ∙ c.find.ensures)) (same-cancel c.load-u.result) c.requires.m_bound
