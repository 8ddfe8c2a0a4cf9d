use Rattle.casting.proofs.Scans.{scanned-lt}
use Rattle.broadcasts.proofs.Plays.{plays, as-played}
use Rattle.casting.proofs.Entries.{same-delivered}
use Rattle.actions.proofs.Sweeps.{turn-found, turn-missed}
use Rattle.casting.specs.Rules.{keyed, delivered_turn}
use native.Mathlib.Omega.{arith}
use mathlib.Core.Path.{sym, ◌∙◌}
use Rattle.broadcasts.proofs.moves.delivered.Goals as goal

pub load-u-requires : goal.load-u-requires
load-u-requires c = omega (arith, scanned-lt c.requires.held (keyed c.args.key) (sym c.in-Some.is ∙ c.first_keyed.ensures), c.requires.held.within)

pub returns-in-None : goal.returns-in-None
returns-in-None c = turn-missed c.requires.held (keyed c.args.key) delivered_turn ((sym c.first_keyed.ensures ∙ c.in-None.is))

pub returns-in-Some : goal.returns-in-Some
returns-in-Some c = turn-found c.requires.held (keyed c.args.key) delivered_turn _ ((sym c.first_keyed.ensures ∙ c.in-Some.is)) (as-played delivered_turn c.load-u.ensures c.delivered-t.ensures c.play.ensures)

pub play-requires-clause-plays : goal.play-requires-clause-plays
play-requires-clause-plays c = plays delivered_turn c.load-u.ensures c.delivered-t.ensures (scanned-lt c.requires.held (keyed c.args.key) (sym c.in-Some.is ∙ c.first_keyed.ensures)) (same-delivered c.load-u.result) c.requires.m_bound
