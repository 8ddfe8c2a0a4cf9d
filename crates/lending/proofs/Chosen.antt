-- A dequeue that first chooses and then lends is the model's. Assumes nothing.
use Rattle.std.specs.Prelude.{Option, None, Some}
use Prim.Native.Nat.{ℕ}
use mathlib.Core.Path.{◌≡◌, refl, sym, ap, ap₂, ◌∙◌}
use mathlib.Core.Bool.{Bool, true, false}
use Rattle.records.specs.Pick.{pick}
use Rattle.records.specs.Priorities.{rank_of}
use Rattle.sending.specs.Lists as uni
use Rattle.casting.specs.Rules as bro
use Rattle.model.specs.Model.{Model, denied}
use Rattle.model.specs.Calls.{late, unicast_first, lend_unicast, lend_broadcast, lend_best, dequeue_of}
use Rattle.doing.specs.Types.{TimeTooLate}
use Rattle.lending.specs.declared.radio.Chosen.{Chosen}
use Rattle.lending.specs.declared.radio.Chosen.TheVariants.{OneUnicast, OneBroadcast}
use Rattle.lending.specs.Choices.{chosen_of, lend_chosen}
use Rattle.records.specs.declared.Priority.{Priority}

pub lend-chosen : (m : Model) (x : Option (ℕ × Priority)) (y : Option (ℕ × ℕ)) → lend_best m x y ≡ lend_chosen m (chosen_of x y)
lend-chosen m None None = refl
lend-chosen m None (Some (j, q)) = refl
lend-chosen m (Some (i, p)) None = refl
lend-chosen m (Some (i, p)) (Some (j, q)) = go (unicast_first i (rank_of p) j q)
  where
    go : (b : Bool) → pick b (lend_unicast m i) (lend_broadcast m j) ≡ lend_chosen m (pick b (OneUnicast i) (OneBroadcast j))
    go true = refl
    go false = refl

-- what a dequeue is, once its answers are known
pub chosen_is : (m : Model) (now : ℕ) {x : Option (ℕ × Priority)} {y : Option (ℕ × ℕ)} {r : Chosen} (k : Chosen) → late now ≡ false → x ≡ uni.best_of now m.unicasts → y ≡ bro.best_of now m.broadcasts
    → r ≡ chosen_of x y → r ≡ k → dequeue_of m now ≡ lend_chosen m k
chosen_is m now k e f g h i =
    ap (λ (b : Bool). pick b (denied m TimeTooLate) (lend_best m (uni.best_of now m.unicasts) (bro.best_of now m.broadcasts))) e
    ∙ lend-chosen m (uni.best_of now m.unicasts) (bro.best_of now m.broadcasts) ∙ ap (lend_chosen m) (ap₂ chosen_of (sym f) (sym g) ∙ sym h ∙ i)
