use mathlib.Core.Bool.{false}
use Rattle.sending.specs.Lists.{loan_by}
use Rattle.sending.specs.Types.{Unicast, Transmitting}
use Rattle.sending.specs.Rules.{with_stage, lend_turn}
use Rattle.scanning.proofs.Scans.{sends, find-here, find-nowhere, first-room, first-lt, first-row, first-none, first-stored, first-stays}
use Rattle.unicasts.proofs.Tables.{stands, lent_is}
use Rattle.rows.specs.Moves.{has_id}
use Rattle.records.specs.Records.{unicast_entry}
use mathlib.Core.Path.{refl, ap, sym, ◌∙◌}
use Rattle.unicasts.proofs.calls.dequeue.Goals as goal

pub load-u-requires-clause-there : goal.load-u-requires-clause-there
load-u-requires-clause-there c =
    let h = c.requires in
    let e = find-here c.args.w.now c.args.n c.args.id _ c.in_ok-i.ensures refl in
    first-room h (has_id unicast_entry c.args.id) _ e

pub returns-in_err-i : goal.returns-in_err-i
returns-in_err-i c =
    let e = find-nowhere c.args.w.now c.args.n c.args.id c.in_err-i.ensures refl in
    rw c.from_residual.ensures (record {
      answer = sym (ap (loan_by c.args.id (sends c.args.w.now c.args.n)) (first-none c.requires (has_id unicast_entry c.args.id) e));
      table = first-stays c.requires (has_id unicast_entry c.args.id) lend_turn e;
    })

pub returns : goal.returns
returns c =
    let h = c.requires in
    let e = find-here c.args.w.now c.args.n c.args.id _ c.in_ok-i.ensures refl in
    record {
      answer = lent_is c.args.id (sends c.args.w.now c.args.n) (first-row h (has_id unicast_entry c.args.id) _ e) c.load-u.ensures c.frame_pending-pending.ensures;
      table = first-stored h (has_id unicast_entry c.args.id) (λ (u : Unicast). with_stage u (Transmitting false)) _ e
          (c.staged-v.ensures ∙ ap (λ (u : Unicast). with_stage u (Transmitting false)) c.load-u.ensures) c.store.ensures;
    }

pub store-requires-clause-stands : goal.store-requires-clause-stands
store-requires-clause-stands c =
    let h = c.requires in
    let e = find-here c.args.w.now c.args.n c.args.id _ c.in_ok-i.ensures refl in
    stands (first-lt h (has_id unicast_entry c.args.id) _ e) c.load-u.ensures (ap unicast_entry c.staged-v.ensures)
