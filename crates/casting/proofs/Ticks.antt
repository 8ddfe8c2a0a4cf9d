-- A tick changes nothing where a scan sees nothing to do. Assumes nothing.
use Prim.Native.Nat.{ℕ, ◌-◌, ◌<◌}
use native.Mathlib.Omega.{arith}
use mathlib.Core.Path.{◌≡◌, refl, sym}
use mathlib.Core.Bool.{Bool, true, false, ◌||◌}
use lib.Dec.{leb}
use borrow.Author.Tests.{lt-leb, leb-false, leb-true}
use Rattle.records.specs.Pick.{pick}
use Rattle.records.proofs.Cases.{never}
use Rattle.rows.specs.declared.Turn.TheVariants.{Keeps}
use Rattle.tables.specs.Layouts.{broadcast_head}
use Rattle.casting.specs.Types.{Schedule, Once, PassiveAck, FixedInterval, CopyState, Idle, CopyQueued, CopyTransmitting, Broadcast}
use Rattle.casting.specs.Rules.{lapse_turn, due_turn, idle_turn, tick_by, tick_turn, attempt_by, stirs_by, stirs_head, attempt_due, copy_due, may_stir}

module _ (now : ℕ) (b : Broadcast) where
  early : now < b.deadline → lapse_turn now b ≡ Keeps b
  early h = rw (lt-leb b.deadline now h)

  -- the sooner of two times has not come: neither has
  neither : (t d : ℕ) → now < pick (leb t d) t d → (now < t) × (now < d)
  neither t d h = go (leb t d) refl h
    where
      go : (x : Bool) → leb t d ≡ x → now < pick x t d → (now < t) × (now < d)
      go true e h = (h, omega (arith, leb-true t d e))
      go false e h = (omega (arith, leb-false t d e), h)

  quiet-due : (s : Schedule) (n t : ℕ) → now < pick (leb t b.deadline) t b.deadline → due_turn now b s n t ≡ Keeps b
  quiet-due s n t h = let p = neither t b.deadline h in rw (lt-leb t now p.0) (early p.1)

  quiet-idle : (s : Schedule) → now < attempt_by b.deadline s → idle_turn now b s ≡ Keeps b
  quiet-idle Once h = early h
  quiet-idle (PassiveAck k n t) h = quiet-due (PassiveAck k (n - 1) t) n t h
  quiet-idle (FixedInterval i n t) h = quiet-due (FixedInterval i (n - 1) t) n t h

  quiet_by : (c : CopyState) → stirs_by now (broadcast_head b) c ≡ false → tick_by now b c ≡ Keeps b
  quiet_by Idle e = quiet-idle b.schedule (leb-false (attempt_by b.deadline b.schedule) now e)
  quiet_by CopyQueued e = early (leb-false b.deadline now e)
  quiet_by CopyTransmitting e = refl

  -- where a scan sees nothing to do, a tick changes nothing
  pub quiet : stirs_head now (broadcast_head b) ≡ false → tick_turn now b ≡ Keeps b
  quiet e = quiet_by b.copy e

  rests-idle : (s : Schedule) → attempt_due now s ≡ false → now < b.deadline → idle_turn now b s ≡ Keeps b
  rests-idle Once e h = early h
  rests-idle (PassiveAck k n t) e h = rw e (early h)
  rests-idle (FixedInterval i n t) e h = rw e (early h)

  rests-by : (c : CopyState) → copy_due now b.schedule c ≡ false → now < b.deadline → tick_by now b c ≡ Keeps b
  rests-by Idle e h = rests-idle b.schedule e h
  rests-by CopyQueued e h = early h
  rests-by CopyTransmitting e h = refl

  -- a tick leaves one that rests
  pub rests : may_stir now b ≡ false → tick_turn now b ≡ Keeps b
  rests e = go (leb b.deadline now) refl e
    where
      go : (x : Bool) → leb b.deadline now ≡ x → x || copy_due now b.schedule b.copy ≡ false → tick_turn now b ≡ Keeps b
      go true q e = never (sym e)
      go false q e = rests-by b.copy e (leb-false b.deadline now q)
