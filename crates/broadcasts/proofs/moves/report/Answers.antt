use Rattle.broadcasts.proofs.Found.{report-out, report-other, report-in, missed-answer, found_lt, barred, done}
use Rattle.broadcasts.proofs.Plays.{plays}
use Rattle.casting.proofs.Entries.{same-report}
use Rattle.casting.specs.Rules.{report_turn}
use native.Mathlib.Omega.{arith}
use mathlib.Core.Path.{refl, sym, ◌∙◌}
use Rattle.broadcasts.proofs.moves.report.Goals as goal

pub load-u-requires : goal.load-u-requires
load-u-requires c = omega (arith, found_lt c.requires.held _ (sym c.in-Some.is ∙ c.find.ensures), c.requires.held.within)

pub returns-then-not-in_radio : goal.returns-then-not-in_radio
returns-then-not-in_radio c =
    barred c.requires.held _ (sym c.in-Some.is ∙ c.find.ensures) c.load-u.ensures
    (report-out c.load-u.result c.args.frame (sym c.in_radio.ensures ∙ c.if-not-in_radio.true))

pub returns-then-u-frame : goal.returns-then-u-frame
returns-then-u-frame c =
    barred c.requires.held _ (sym c.in-Some.is ∙ c.find.ensures) c.load-u.ensures
    (report-other c.load-u.result c.args.frame (sym c.in_radio.ensures ∙ c.if-not-in_radio.false) c.if-u-frame.true)

pub returns-in-None : goal.returns-in-None
returns-in-None c = missed-answer c.requires.held _ (sym c.in-None.is ∙ c.find.ensures) refl

pub returns-else-u-frame : goal.returns-else-u-frame
returns-else-u-frame c =
    let a = c.args in
    done c.requires.held _ (sym c.in-Some.is ∙ c.find.ensures) c.load-u.ensures (report_turn a.x a.clock a.delay)
    (report-in c.load-u.result a.frame (sym c.in_radio.ensures ∙ c.if-not-in_radio.false) c.if-u-frame.false) c.report-t.ensures c.play.ensures

pub play-requires-clause-plays : goal.play-requires-clause-plays
play-requires-clause-plays c =
    let a = c.args in
    plays (report_turn a.x a.clock a.delay) c.load-u.ensures c.report-t.ensures (found_lt c.requires.held _ (sym c.in-Some.is ∙ c.find.ensures)) (same-report a.x a.clock a.delay c.load-u.result) c.requires.m_bound
