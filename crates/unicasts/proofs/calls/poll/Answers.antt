use Rattle.sending.specs.Rules.{awaits, polled_of, poll_turn}
use Rattle.scanning.proofs.Scans.{scan-some, scan-none, first-room, first-lt, any-there, any_none, first-stored, first-stays}
use Rattle.unicasts.proofs.Tables.{stands}
use Rattle.records.specs.Records.{unicast_entry}
use mathlib.Core.Path.{ap, ◌∙◌}
use Rattle.unicasts.proofs.calls.poll.Goals as goal

pub load-u-requires-clause-there : goal.load-u-requires-clause-there
load-u-requires-clause-there c =
    let h = c.requires in
    let e = scan-some (awaits c.args.eui c.args.nwk c.args.clock) c.args.w.now c.args.n _ c.first_awaited.ensures c.in-Some.is in
    first-room h (awaits c.args.eui c.args.nwk c.args.clock) _ e

pub returns-in_default : goal.returns-in_default
returns-in_default c =
    let e = scan-none (awaits c.args.eui c.args.nwk c.args.clock) c.args.w.now c.args.n c.first_awaited.ensures c.in_default.is in
    record { answer = any_none c.requires (awaits c.args.eui c.args.nwk c.args.clock) e; table = first-stays c.requires (awaits c.args.eui c.args.nwk c.args.clock) poll_turn e }

pub returns : goal.returns
returns c =
    let h = c.requires in
    let e = scan-some (awaits c.args.eui c.args.nwk c.args.clock) c.args.w.now c.args.n _ c.first_awaited.ensures c.in-Some.is in
    record { answer = any-there h (awaits c.args.eui c.args.nwk c.args.clock) _ e; table = first-stored h (awaits c.args.eui c.args.nwk c.args.clock) polled_of _ e (c.polled-v.ensures ∙ ap polled_of c.load-u.ensures) c.store.ensures }

pub store-requires-clause-stands : goal.store-requires-clause-stands
store-requires-clause-stands c =
    let h = c.requires in
    let e = scan-some (awaits c.args.eui c.args.nwk c.args.clock) c.args.w.now c.args.n _ c.first_awaited.ensures c.in-Some.is in
    stands (first-lt h (awaits c.args.eui c.args.nwk c.args.clock) _ e) c.load-u.ensures (ap unicast_entry c.polled-v.ensures)
