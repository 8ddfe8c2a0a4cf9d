use Rattle.sending.specs.Rules.{cancel_turn}
use Rattle.sending.specs.Types.{NoSuchSend, InTheRadio}
use Rattle.rows.specs.Moves.{has_id}
use Rattle.sending.proofs.Bars.{sending-row, cancel-sending, cancel-idle}
use Rattle.scanning.proofs.Scans.{row_at, find-here, find-nowhere, first-lt, first-room, first-row, first-none}
use Rattle.unicasts.proofs.Tables.{played-as, refused, done}
use Rattle.records.specs.Records.{unicast_entry}
use mathlib.Core.Path.{refl, ap, ◌∙◌}
use Rattle.unicasts.proofs.calls.cancel.Goals as goal

pub load-u-requires-clause-there : goal.load-u-requires-clause-there
load-u-requires-clause-there c =
    let h = c.requires.held in
    let e = find-here c.args.w.now c.args.n c.args.id _ c.find.ensures c.in-Some.is in
    first-room h (has_id unicast_entry c.args.id) _ e

pub returns-then-is_sending : goal.returns-then-is_sending
returns-then-is_sending c =
    let h = c.requires.held in
    let e = find-here c.args.w.now c.args.n c.args.id _ c.find.ensures c.in-Some.is in
    refused InTheRadio (first-row h (has_id unicast_entry c.args.id) _ e) (cancel-sending (row_at c.args.w.now _) (sending-row c.load-u.ensures c.is_sending.ensures c.if-is_sending.true))

pub returns-in_default : goal.returns-in_default
returns-in_default c =
    refused NoSuchSend (first-none c.requires.held (has_id unicast_entry c.args.id) (find-nowhere c.args.w.now c.args.n c.args.id c.find.ensures c.in_default.is)) refl

pub returns : goal.returns
returns c =
    let h = c.requires.held in
    let e = find-here c.args.w.now c.args.n c.args.id _ c.find.ensures c.in-Some.is in
    done h _ e (cancel-idle (row_at c.args.w.now _) (sending-row c.load-u.ensures c.is_sending.ensures c.if-is_sending.false))
    (played-as (c.cancel_turn-t.ensures ∙ ap cancel_turn c.load-u.ensures) c.load-u.ensures c.play.ensures)

pub play-requires-clause-i_lt_n : goal.play-requires-clause-i_lt_n
play-requires-clause-i_lt_n c =
    let h = c.requires.held in
    let e = find-here c.args.w.now c.args.n c.args.id _ c.find.ensures c.in-Some.is in
    first-lt h (has_id unicast_entry c.args.id) _ e
