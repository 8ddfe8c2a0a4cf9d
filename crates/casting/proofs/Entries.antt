-- Each rule keeps the entry of a broadcast that stays, and so each call loses no entry and makes none up. Assumes nothing.
use Rattle.std.specs.Prelude.{Ok, Err}
use Prim.Native.Nat.{ℕ, ◌+◌, ◌-◌}
use mathlib.Core.Path.{◌≡◌, refl}
use mathlib.Core.Bool.{Bool, not, ◌&&◌, ◌||◌}
use mathlib.Core.List.{List}
use lib.Dec.{leb, eqb}
use Rattle.records.specs.Records.{broadcast_entry}
use Rattle.records.specs.declared.Entry.{Entry}
use Rattle.records.proofs.Cases.{either}
use Rattle.rows.specs.Moves.{each, at_first, count, each_told, at_first_told, has_id, settled_of}
use Rattle.rows.specs.declared.Turn.{Turn}
use Rattle.rows.specs.Moves.{Same}
use Rattle.rows.proofs.Promises.{entries, each-count, first_count}
use Rattle.casting.specs.Types.{Schedule, Once, PassiveAck, FixedInterval, CopyState, Idle, CopyQueued, CopyTransmitting, Broadcast, QuorumKey, TxResult}
use Rattle.casting.specs.Rules.{remade, in_radio, keyed, dequeue_turn, cancel_turn, repeat_turn, report_by, report_turn, delivered_turn, lapse_turn, due_turn, idle_turn, tick_by, tick_turn}

abbrev Stays : Broadcast → Turn Broadcast → Type 0
Stays b x = Same broadcast_entry b x

pub same-dequeue : (b : Broadcast) → Stays b (dequeue_turn b)
same-dequeue b = refl

pub same-cancel : (b : Broadcast) → Stays b (cancel_turn b)
same-cancel b = tt

same-repeat : (b : Broadcast) (s : Schedule) (x : TxResult) → Stays b (repeat_turn b s x)
same-repeat b s (Ok _) = either (Stays b) b.quorum_heard tt (either (Stays b) b.handed_off refl refl)
same-repeat b s (Err c) = either (Stays b) (b.quorum_heard && b.handed_off) tt refl

pub same-report : (x : TxResult) (now delay : ℕ) (b : Broadcast) → Stays b (report_turn x now delay b)
same-report x now delay b = go b.schedule
  where
    go : (s : Schedule) → Stays b (report_by b x now delay s)
    go Once = tt
    go (PassiveAck k n t) = same-repeat b (PassiveAck k n (now + delay)) x
    go (FixedInterval i n t) = same-repeat b (FixedInterval i n (now + i)) x

pub same-delivered : (b : Broadcast) → Stays b (delivered_turn b)
same-delivered b = either (Stays b) (in_radio b.copy || not b.handed_off) refl tt

module _ (now : ℕ) (b : Broadcast) where
  same-lapse : (v : Broadcast) → broadcast_entry v ≡ broadcast_entry b → Stays b (lapse_turn now v)
  same-lapse v e = either (Stays b) (leb v.deadline now) (either (Stays b) v.handed_off tt tt) e

  same-due : (s : Schedule) (n t : ℕ) → Stays b (due_turn now b s n t)
  same-due s n t =
      either (Stays b) (leb t now)
      (either (Stays b) (eqb n 0) (either (Stays b) b.handed_off tt tt)
      (same-lapse (remade b s CopyQueued b.handed_off b.quorum_heard b.last_error) refl))
      (same-lapse b refl)

  same-idle : (s : Schedule) → Stays b (idle_turn now b s)
  same-idle Once = same-lapse b refl
  same-idle (PassiveAck k n t) = same-due (PassiveAck k (n - 1) t) n t
  same-idle (FixedInterval i n t) = same-due (FixedInterval i (n - 1) t) n t

  pub same-tick : Stays b (tick_turn now b)
  same-tick = go b.copy
    where
      go : (c : CopyState) → Stays b (tick_by now b c)
      go Idle = same-idle b.schedule
      go CopyQueued = same-lapse b refl
      go CopyTransmitting = refl

-- ---- the counting law of each call: the entries before are those that stay and those that are settled

module _ (p : Entry → Bool) (bs : List Broadcast) where
  pub tick-counts : (now : ℕ) → entries broadcast_entry p bs ≡ entries broadcast_entry p (each (tick_turn now) bs) + count p (settled_of (each_told broadcast_entry (tick_turn now) bs))
  tick-counts now = each-count broadcast_entry p (tick_turn now) (same-tick now) bs

  pub report-counts : (id : ℕ) (x : TxResult) (now delay : ℕ) → entries broadcast_entry p bs
      ≡ entries broadcast_entry p (at_first (has_id broadcast_entry id) (report_turn x now delay) bs)
      + count p (settled_of (at_first_told broadcast_entry (has_id broadcast_entry id) (report_turn x now delay) bs))
  report-counts id x now delay = first_count broadcast_entry p (has_id broadcast_entry id) (report_turn x now delay) (same-report x now delay) bs

  pub delivered-counts : (k : QuorumKey) → entries broadcast_entry p bs
      ≡ entries broadcast_entry p (at_first (keyed k) delivered_turn bs) + count p (settled_of (at_first_told broadcast_entry (keyed k) delivered_turn bs))
  delivered-counts k = first_count broadcast_entry p (keyed k) delivered_turn same-delivered bs

  pub cancel-counts : (id : ℕ) → entries broadcast_entry p bs
      ≡ entries broadcast_entry p (at_first (has_id broadcast_entry id) cancel_turn bs) + count p (settled_of (at_first_told broadcast_entry (has_id broadcast_entry id) cancel_turn bs))
  cancel-counts id = first_count broadcast_entry p (has_id broadcast_entry id) cancel_turn same-cancel bs

  pub dequeue-counts : (id : ℕ) → entries broadcast_entry p bs
      ≡ entries broadcast_entry p (at_first (has_id broadcast_entry id) dequeue_turn bs) + count p (settled_of (at_first_told broadcast_entry (has_id broadcast_entry id) dequeue_turn bs))
  dequeue-counts id = first_count broadcast_entry p (has_id broadcast_entry id) dequeue_turn same-dequeue bs
