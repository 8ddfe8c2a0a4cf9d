use Rattle.actions.proofs.Sweeps.{turn-found, turn-missed}
use Rattle.sending.specs.Rules.{keyed, ack_turn}
use Rattle.scanning.proofs.Scans.{scan-some, scan-none, first-room, first-lt}
use Rattle.unicasts.proofs.Tables.{played-as}
use mathlib.Core.Path.{ap, ◌∙◌}
use Rattle.unicasts.proofs.calls.ack.Goals as goal

pub load-u-requires-clause-there : goal.load-u-requires-clause-there
load-u-requires-clause-there c =
    let h = c.requires.held in
    let e = scan-some (keyed c.args.key) c.args.w.now c.args.n _ c.first_keyed.ensures c.in-Some.is in
    first-room h (keyed c.args.key) _ e

pub returns-in_default : goal.returns-in_default
returns-in_default c =
    turn-missed c.requires.held (keyed c.args.key) ack_turn (scan-none (keyed c.args.key) c.args.w.now c.args.n c.first_keyed.ensures c.in_default.is)

pub returns : goal.returns
returns c =
    let h = c.requires.held in
    let e = scan-some (keyed c.args.key) c.args.w.now c.args.n _ c.first_keyed.ensures c.in-Some.is in
    turn-found h (keyed c.args.key) ack_turn _ e (played-as (c.ack_turn-t.ensures ∙ ap ack_turn c.load-u.ensures) c.load-u.ensures c.play.ensures)

pub play-requires-clause-i_lt_n : goal.play-requires-clause-i_lt_n
play-requires-clause-i_lt_n c =
    let h = c.requires.held in
    let e = scan-some (keyed c.args.key) c.args.w.now c.args.n _ c.first_keyed.ensures c.in-Some.is in
    first-lt h (keyed c.args.key) _ e
