-- The rules keep every broadcast sane (specs/Claims), so that two verdicts are never asked: the end of a once that was handed off, and the last error of
-- one that has none. Assumes nothing.
use Rattle.std.specs.Prelude.{Option, None, Some, Ok, Err}
use Prim.Native.Nat.{ℕ, ◌+◌, ◌-◌}
use mathlib.Core.Path.{◌≡◌, refl, sym, ◌∙◌}
use mathlib.Core.Bool.{Bool, true, false, not, ◌&&◌, ◌||◌}
use lib.Dec.{leb, eqb}
use Rattle.records.proofs.Cases.{either, never}
use Rattle.casting.specs.Types.{Priority, Schedule, Once, PassiveAck, FixedInterval, CopyState, Idle, CopyQueued, CopyTransmitting, Broadcast, TxResult}
use Rattle.casting.specs.Rules.{remade, admitted_of, no_copies, in_radio, dequeue_turn, repeat_turn, report_by, report_turn, delivered_turn, lapse_turn, due_turn, idle_turn, tick_by, tick_turn}
use Rattle.casting.specs.Claims.{is_once, has_error, Sane, Leaves}

-- one with no copies is refused, so what is admitted is sane
pub sane-admitted : (id frame waiter : ℕ) (p : Priority) (s : Schedule) (now handoff : ℕ) → no_copies s ≡ false → Sane (admitted_of id frame waiter p s now handoff)
sane-admitted id frame waiter p s now handoff e = record { once = λ o. refl; error = λ i n h. never (sym e ∙ n) }

module _ (b : Broadcast) (sane : Sane b) where
  pub sane-dequeue : Leaves (dequeue_turn b)
  sane-dequeue = record { once = sane.once; error = λ i n h. never i }

  pub sane-delivered : Leaves (delivered_turn b)
  sane-delivered = either Leaves (in_radio b.copy || not b.handed_off) (record { once = sane.once; error = sane.error }) tt

  sane-repeat : (s : Schedule) → is_once s ≡ false → (x : TxResult) → Leaves (repeat_turn b s x)
  sane-repeat s e (Ok _) =
      either Leaves b.quorum_heard tt
      (either Leaves b.handed_off (record { once = λ o. never (sym e ∙ o); error = λ i n h. never (sym h) })
      (record { once = λ o. never (sym e ∙ o); error = λ i n h. never (sym h) }))
  sane-repeat s e (Err c) =
      either Leaves (b.quorum_heard && b.handed_off) tt (record { once = λ o. never (sym e ∙ o); error = λ i n h. refl })

  pub sane-report : (x : TxResult) (now delay : ℕ) → Leaves (report_turn x now delay b)
  sane-report x now delay = go b.schedule
    where
      go : (s : Schedule) → Leaves (report_by b x now delay s)
      go Once = tt
      go (PassiveAck k n t) = sane-repeat (PassiveAck k n (now + delay)) refl x
      go (FixedInterval i n t) = sane-repeat (FixedInterval i n (now + i)) refl x

  module _ (now : ℕ) where
    sane-lapse : (v : Broadcast) → Sane v → Leaves (lapse_turn now v)
    sane-lapse v s = either Leaves (leb v.deadline now) (either Leaves v.handed_off tt tt) s

    sane-due : (s : Schedule) → is_once s ≡ false → (n t : ℕ) → Leaves (due_turn now b s n t)
    sane-due s e n t =
        either Leaves (leb t now)
        (either Leaves (eqb n 0) (either Leaves b.handed_off tt tt)
        (sane-lapse (remade b s CopyQueued b.handed_off b.quorum_heard b.last_error)
        (record { once = λ o. never (sym e ∙ o); error = λ i n h. never i })))
        (sane-lapse b sane)

    sane-idle : (s : Schedule) → Leaves (idle_turn now b s)
    sane-idle Once = sane-lapse b sane
    sane-idle (PassiveAck k n t) = sane-due (PassiveAck k (n - 1) t) refl n t
    sane-idle (FixedInterval i n t) = sane-due (FixedInterval i (n - 1) t) refl n t

    pub sane-tick : Leaves (tick_turn now b)
    sane-tick = go b.copy
      where
        go : (c : CopyState) → Leaves (tick_by now b c)
        go Idle = sane-idle b.schedule
        go CopyQueued = sane-lapse b sane
        go CopyTransmitting = sane

  -- where no copy is left and none was handed off there is a code to settle with
  pub error-there : b.copy ≡ Idle → no_copies b.schedule ≡ true → b.handed_off ≡ false → (code : ℕ) × (b.last_error ≡ Some code)
  error-there c n h = go b.last_error refl (sane.error (rw c) n h)
    where
      go : (e : Option ℕ) → b.last_error ≡ e → has_error e ≡ true → (code : ℕ) × (b.last_error ≡ Some code)
      go None p q = never q
      go (Some code) p q = (code, p)

  -- what was handed off is no once
  pub handed-repeats : b.handed_off ≡ true → is_once b.schedule ≡ false
  handed-repeats h = go (is_once b.schedule) refl
    where
      go : (x : Bool) → is_once b.schedule ≡ x → x ≡ false
      go true e = never (sym (sane.once e) ∙ h)
      go false e = refl
