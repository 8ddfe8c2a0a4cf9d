-- What the tests of the code say of a send's turn; each rule keeps the entry; a sweep by heads is 01's rule; what a call need not look at. Assumes nothing.
use Rattle.std.specs.Prelude.{Option, None, Some, Ok, Err}
use Prim.Native.Nat.{ℕ}
use mathlib.Core.Path.{◌≡◌, refl, sym, ap, ◌∙◌}
use mathlib.Core.Bool.{Bool, true, false, not, ◌&&◌, ◌||◌}
use mathlib.Core.List.{List, [], ◌∷◌}
use lib.Dec.{ltb, leb, eqb}
use Rattle.records.specs.Pick.{pick}
use Rattle.records.proofs.Cases.{either, never}
use Rattle.records.specs.Records.{unicast_entry}
use Rattle.rows.specs.declared.Turn.TheVariants.{Keeps, Settles}
use Rattle.rows.specs.Moves.{Same, any_of}
use Rattle.tables.specs.Layouts.{unicast_head}
use Rattle.sending.specs.Types.{Address, Absent, Short, Extended, AckKey, Confirm, OnHandoff, ApsAck, Stage, Queued, Transmitting, Retrying, AwaitingPoll, AwaitingApsAck, Unicast, TxResult, ApsAckTimeout, Cancelled, Failure, UnicastHead, Due, Leave, Requeue, Finish, Which, Lapsed, Dropped, CopyOf, Sought}
use Rattle.sending.specs.Rules.{with_stage, is_awaiting, is_acking, lend_turn, poll_turn, keyed_by, keyed, ack_by, ack_turn, hand_off_by, fail_held, fail_by, report_sent, report_by, report_turn, unsent, requeued, lapse_by, lapse_turn, tick_turn, retries, stirs, under, drop_turn, cancel_turn, copies, copy_turn, pending_head, names, beside, sought_head, sought, tick_due, due_head, due_turn, sweep_turn}

-- ---- what the code read

pub sought-is : (s : Sought) (u : Unicast) {h : UnicastHead} {r b : Bool} → h ≡ unicast_head u → r ≡ sought_head s h → r ≡ b → sought s u ≡ b
sought-is s u e f g = ap (sought_head s) (sym e) ∙ sym f ∙ g

pub keyed-is : (k : AckKey) (u : Unicast) {c : Confirm} {r b : Bool} → c ≡ u.confirm → r ≡ keyed_by k c → r ≡ b → keyed k u ≡ b
keyed-is k u e f g = ap (keyed_by k) (sym e) ∙ sym f ∙ g

pub due-is : (which : Which) (u : Unicast) {h : UnicastHead} {d : Due} (x : Due) → h ≡ unicast_head u → d ≡ due_head which h → d ≡ x → sweep_turn which u ≡ due_turn x u
due-is which u x e f g = ap (λ (y : Due). due_turn y u) (ap (due_head which) (sym e) ∙ sym f ∙ g)

-- ---- each rule keeps the entry

pub lend_same : (u : Unicast) → Same unicast_entry u (lend_turn u)
lend_same u = refl

pub poll-same : (u : Unicast) → Same unicast_entry u (poll_turn u)
poll-same u = refl

pub cancel-same : (u : Unicast) → Same unicast_entry u (cancel_turn u)
cancel-same u = tt

pub ack-same : (u : Unicast) → Same unicast_entry u (ack_turn u)
ack-same u = go u.stage
  where
    go : (s : Stage) → Same unicast_entry u (ack_by u s)
    go Queued = tt
    go (Transmitting k) = refl
    go (Retrying t) = tt
    go AwaitingPoll = tt
    go AwaitingApsAck = tt

pub report-same : (r : TxResult) (now delay : ℕ) (u : Unicast) → Same unicast_entry u (report_turn r now delay u)
report-same r now delay u = go u.stage
  where
    handed : (acked : Bool) (c : Confirm) → Same unicast_entry u (hand_off_by u acked now c)
    handed acked OnHandoff = tt
    handed true (ApsAck k wait) = tt
    handed false (ApsAck k wait) = refl

    held : (code : ℕ) → Same unicast_entry u (fail_held u code now)
    held code = either (Same unicast_entry u) (ltb now u.deadline) refl tt

    failed : (code : ℕ) (a : Address) → Same unicast_entry u (fail_by u code now delay a)
    failed code Absent = either (Same unicast_entry u) (eqb u.attempts_remaining 0) tt refl
    failed code (Short n) = held code
    failed code (Extended n) = held code

    sent : (acked : Bool) (x : TxResult) → Same unicast_entry u (report_sent u acked x now delay)
    sent acked (Ok _) = handed acked u.confirm
    sent true (Err code) = handed true u.confirm
    sent false (Err code) = failed code u.poll_address

    go : (s : Stage) → Same unicast_entry u (report_by u r now delay s)
    go Queued = refl
    go (Transmitting acked) = sent acked r
    go (Retrying t) = refl
    go AwaitingPoll = refl
    go AwaitingApsAck = refl

pub tick-same : (now : ℕ) (u : Unicast) → Same unicast_entry u (tick_turn now u)
tick-same now u =
    let v : Unicast = with_stage u (requeued now u.stage) in
    either (Same unicast_entry u) (leb u.deadline now) (go v refl v.stage) refl
  where
    go : (v : Unicast) → unicast_entry v ≡ unicast_entry u → (s : Stage) → Same unicast_entry u (lapse_by v s)
    go v e Queued = tt
    go v e (Transmitting k) = e
    go v e (Retrying t) = tt
    go v e AwaitingPoll = tt
    go v e AwaitingApsAck = tt

pub drop-same : (eui : Option ℕ) (nwk : ℕ) (u : Unicast) → Same unicast_entry u (drop_turn eui nwk u)
drop-same eui nwk u = either (Same unicast_entry u) (is_awaiting u.stage && under eui (Some nwk) u.poll_address) tt refl

pub copy-same : (i : ℕ) (u : Unicast) → Same unicast_entry u (copy_turn i u)
copy-same i u = either (Same unicast_entry u) (copies i u) tt refl

-- ---- a sweep by heads is 01's rule

pub sweep-tick : (now : ℕ) (u : Unicast) → sweep_turn (Lapsed now) u ≡ tick_turn now u
sweep-tick now u = go u.stage refl
  where
    go : (s : Stage) → u.stage ≡ s → due_turn (tick_due now (unicast_head u) s) u ≡ lapse_turn now (with_stage u (requeued now s))
    go Queued e = by (leb u.deadline now)
      where
        by : (b : Bool) → due_turn (pick b (Finish false (unsent u.poll_address)) Leave) u
            ≡ pick b (Settles false (Failure (unsent u.poll_address)) None) (Keeps (with_stage u Queued))
        by true = refl
        by false = ap (λ (s : Stage). Keeps (with_stage u s)) e
    go (Transmitting k) e = by (leb u.deadline now)
      where
        by : (b : Bool) → Keeps u ≡ pick b (Keeps (with_stage u (Transmitting k))) (Keeps (with_stage u (Transmitting k)))
        by true = ap (λ (s : Stage). Keeps (with_stage u s)) e
        by false = ap (λ (s : Stage). Keeps (with_stage u s)) e
    go (Retrying at) e = by (leb at now) (leb u.deadline now)
      where
        by : (d b : Bool) → due_turn (pick b (Finish false (unsent u.poll_address)) (pick d Requeue Leave)) u
            ≡ pick b (lapse_by (with_stage u (pick d Queued (Retrying at))) (pick d Queued (Retrying at))) (Keeps (with_stage u (pick d Queued (Retrying at))))
        by true true = refl
        by true false = refl
        by false true = refl
        by false false = ap (λ (s : Stage). Keeps (with_stage u s)) e
    go AwaitingPoll e = by (leb u.deadline now)
      where
        by : (b : Bool) → due_turn (pick b (Finish false (unsent u.poll_address)) Leave) u
            ≡ pick b (Settles false (Failure (unsent u.poll_address)) None) (Keeps (with_stage u AwaitingPoll))
        by true = refl
        by false = ap (λ (s : Stage). Keeps (with_stage u s)) e
    go AwaitingApsAck e = by (leb u.deadline now)
      where
        by : (b : Bool) → due_turn (pick b (Finish true ApsAckTimeout) Leave) u
            ≡ pick b (Settles true (Failure ApsAckTimeout) None) (Keeps (with_stage u AwaitingApsAck))
        by true = refl
        by false = ap (λ (s : Stage). Keeps (with_stage u s)) e

pub sweep-drop : (eui : Option ℕ) (nwk : ℕ) (u : Unicast) → sweep_turn (Dropped eui nwk) u ≡ drop_turn eui nwk u
sweep-drop eui nwk u = go u.stage (under eui (Some nwk) u.poll_address)
  where
    go : (s : Stage) (b : Bool) → due_turn (pick (is_awaiting s && b) (Finish false (unsent u.poll_address)) Leave) u
        ≡ pick (is_awaiting s && b) (Settles (is_acking s) (Failure (unsent u.poll_address)) None) (Keeps u)
    go Queued b = refl
    go (Transmitting k) b = refl
    go (Retrying t) b = refl
    go AwaitingPoll true = refl
    go AwaitingPoll false = refl
    go AwaitingApsAck b = refl

pub sweep-copy : (i : ℕ) (u : Unicast) → sweep_turn (CopyOf i) u ≡ copy_turn i u
sweep-copy i u = go (copies i u)
  where
    go : (b : Bool) → due_turn (pick b (Finish (is_acking u.stage) Cancelled) Leave) u ≡ pick b (cancel_turn u) (Keeps u)
    go true = refl
    go false = refl

-- ---- what a call need not look at

-- a tick leaves a send that rests
pub tick-rests : (now : ℕ) (u : Unicast) → stirs now u ≡ false → tick_turn now u ≡ Keeps u
tick-rests now u e = go (leb u.deadline now) e
  where
    stays : (s : Stage) → retries now s ≡ false → requeued now s ≡ s
    stays Queued e = refl
    stays (Transmitting k) e = refl
    stays (Retrying at) e = ap (λ (b : Bool). pick b Queued (Retrying at)) e
    stays AwaitingPoll e = refl
    stays AwaitingApsAck e = refl

    go : (b : Bool) → b || retries now u.stage ≡ false
        → pick b (lapse_by (with_stage u (requeued now u.stage)) (requeued now u.stage)) (Keeps (with_stage u (requeued now u.stage))) ≡ Keeps u
    go true e = never (sym e)
    go false e = ap (λ (s : Stage). Keeps (with_stage u s)) (stays u.stage e)

-- no send is pending for no address
pub beside_none : (i : ℕ) (us : List Unicast) → any_of (beside i Absent) us ≡ false
beside_none i [] = refl
beside_none i (u ∷ us) = rw (unnamed (pending_head (unicast_head u))) (by (not (eqb u.id i)) (beside_none i us))
  where
    unnamed : (a : Address) → names Absent a ≡ false
    unnamed Absent = refl
    unnamed (Short n) = refl
    unnamed (Extended n) = refl

    by : (b : Bool) {r : Bool} → r ≡ false → pick (b && false) true r ≡ false
    by true e = e
    by false e = e
