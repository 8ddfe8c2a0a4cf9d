use Rattle.sending.specs.Rules.{report_turn}
use Rattle.sending.specs.Types.{NoSuchSend, NotInTheRadio, OtherFrame}
use Rattle.rows.specs.Moves.{has_id}
use Rattle.sending.proofs.Bars.{sending-row, report-frame, report-other, report-idle}
use Rattle.scanning.proofs.Scans.{row_at, find-here, find-nowhere, first-lt, first-room, first-row, first-none}
use Rattle.unicasts.proofs.Tables.{played-as, refused, done}
use Rattle.records.specs.Records.{unicast_entry}
use mathlib.Core.Path.{refl, ap, ◌∙◌}
use Rattle.unicasts.proofs.calls.report.Goals as goal

pub load-u-requires-clause-there : goal.load-u-requires-clause-there
load-u-requires-clause-there c =
    let h = c.requires.held in
    let e = find-here c.args.w.now c.args.n c.args.id _ c.find.ensures c.in-Some.is in
    first-room h (has_id unicast_entry c.args.id) _ e

pub returns : goal.returns
returns c =
    let h = c.requires.held in
    let e = find-here c.args.w.now c.args.n c.args.id _ c.find.ensures c.in-Some.is in
    done h _ e (report-frame c.args.frame (row_at c.args.w.now _) (sending-row c.load-u.ensures c.is_sending.ensures c.if-not-is_sending.false) c.load-u.ensures c.if-u-frame.false)
    (played-as (c.report_turn-t.ensures ∙ ap (report_turn c.args.res c.args.clock c.args.delay) c.load-u.ensures) c.load-u.ensures c.play.ensures)

pub returns-then-u-frame : goal.returns-then-u-frame
returns-then-u-frame c =
    let h = c.requires.held in
    let e = find-here c.args.w.now c.args.n c.args.id _ c.find.ensures c.in-Some.is in
    refused OtherFrame (first-row h (has_id unicast_entry c.args.id) _ e) (report-other c.args.frame (row_at c.args.w.now _) (sending-row c.load-u.ensures c.is_sending.ensures c.if-not-is_sending.false) c.load-u.ensures c.if-u-frame.true)

pub returns-in_default : goal.returns-in_default
returns-in_default c =
    refused NoSuchSend (first-none c.requires.held (has_id unicast_entry c.args.id) (find-nowhere c.args.w.now c.args.n c.args.id c.find.ensures c.in_default.is)) refl

pub returns-then-not-is_sending : goal.returns-then-not-is_sending
returns-then-not-is_sending c =
    let h = c.requires.held in
    let e = find-here c.args.w.now c.args.n c.args.id _ c.find.ensures c.in-Some.is in
    refused NotInTheRadio (first-row h (has_id unicast_entry c.args.id) _ e) (report-idle c.args.frame (row_at c.args.w.now _) (sending-row c.load-u.ensures c.is_sending.ensures c.if-not-is_sending.true))

pub play-requires-clause-i_lt_n : goal.play-requires-clause-i_lt_n
play-requires-clause-i_lt_n c =
    let h = c.requires.held in
    let e = find-here c.args.w.now c.args.n c.args.id _ c.find.ensures c.in-Some.is in
    first-lt h (has_id unicast_entry c.args.id) _ e
