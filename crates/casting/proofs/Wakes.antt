-- The next wake is when a tick next has something to do: specs/Claims. Assumes nothing.
use Rattle.std.specs.Prelude.{Option, None, Some}
use Prim.Native.Nat.{ℕ, ◌≤◌, ◌<◌}
use native.Mathlib.Omega.{arith}
use mathlib.Core.Path.{◌≡◌, refl, sym, ap, ap₂, ◌∙◌}
use mathlib.Core.Bool.{Bool, true, false}
use mathlib.Core.List.{List, [], ◌∷◌, ◌++◌}
use lib.Dec.{leb}
use borrow.Author.Tests.{lt-leb, le-leb, leb-true, leb-false}
use Rattle.records.specs.Pick.{pick}
use Rattle.records.specs.Records.{broadcast_entry}
use Rattle.records.specs.Times.{sooner}
use Rattle.records.specs.declared.Action.{Action}
use Rattle.records.proofs.Cases.{never}
use Rattle.rows.specs.Moves.{kept, told, each, each_told, any_of}
use Rattle.rows.specs.declared.Turn.{Turn}
use Rattle.tables.specs.Layouts.{broadcast_head}
use Rattle.casting.specs.Types.{CopyState, Idle, CopyQueued, CopyTransmitting, Broadcast}
use Rattle.casting.specs.Rules.{tick_turn, attempt_by, stirs_by, wake_by, wake_of}
use Rattle.casting.specs.Claims.{stirring, due_by, WakeIsDue, QuietBefore}
use Rattle.casting.proofs.Ticks.{quiet}

or-not : (x : Bool) → x ≡ pick x true false
or-not true = refl
or-not false = refl

module _ (now : ℕ) where
  sooner-due : (a : ℕ) (o : Option ℕ) → pick (leb a now) true (due_by now o) ≡ due_by now (sooner a o)
  sooner-due a None = sym (or-not (leb a now))
  sooner-due a (Some u) = go (leb a u) refl (leb a now) refl
    where
      go : (x : Bool) → leb a u ≡ x → (y : Bool) → leb a now ≡ y → pick y true (leb u now) ≡ leb (pick x a u) now
      go true e true f = sym f
      go true e false f = let l : now < u = omega (arith, leb-true a u e, leb-false a now f) in lt-leb u now l ∙ sym f
      go false e true f = let l : u ≤ now = omega (arith, leb-false a u e, leb-true a now f) in sym (le-leb u now l)
      go false e false f = refl

  wake-by : (b : Broadcast) (c : CopyState) (o : Option ℕ) → pick (stirs_by now (broadcast_head b) c) true (due_by now o) ≡ due_by now (wake_by c (broadcast_head b) o)
  wake-by b Idle o = sooner-due (attempt_by b.deadline b.schedule) o
  wake-by b CopyQueued o = sooner-due b.deadline o
  wake-by b CopyTransmitting o = refl

pub wake-is-due : WakeIsDue
wake-is-due now [] = refl
wake-is-due now (b ∷ bs) = ap (pick (stirring now b) true) (wake-is-due now bs) ∙ wake-by now b b.copy (wake_of bs)

pub quiet-before : QuietBefore
quiet-before now bs e = still bs (wake-is-due now bs ∙ e)
  where
    still : (bs : List Broadcast) → any_of (stirring now) bs ≡ false → (each (tick_turn now) bs ≡ bs) × (each_told broadcast_entry (tick_turn now) bs ≡ [])
    still [] e = (refl, refl)
    still (b ∷ bs) e = go (stirring now b) refl e (still bs)
      where
        go : (x : Bool) → stirring now b ≡ x → pick x true (any_of (stirring now) bs) ≡ false
            → (any_of (stirring now) bs ≡ false → (each (tick_turn now) bs ≡ bs) × (each_told broadcast_entry (tick_turn now) bs ≡ []))
            → (each (tick_turn now) (b ∷ bs) ≡ b ∷ bs) × (each_told broadcast_entry (tick_turn now) (b ∷ bs) ≡ [])
        go true q e r = never (sym e)
        go false q e r = (
          ap₂ (λ (x : Turn Broadcast) (l : List Broadcast). kept x ++ l) (quiet now b q) (r e).0,
          ap₂ (λ (x : Turn Broadcast) (l : List Action). told (broadcast_entry b) x ++ l) (quiet now b q) (r e).1,
        )
