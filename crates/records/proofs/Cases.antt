-- Cases on tests and numbers, for every proof that makes them. Assumes nothing.
use Prim.Native.Nat.{ℕ, ◌≤◌, ◌<◌}
use native.Mathlib.Decide.{dec_lt, ℕ_discrete}
use native.Mathlib.Omega.{arith}
use mathlib.Core.Path.{◌≡◌, refl}
use mathlib.Core.Bool.{Bool, true, false, ◌&&◌}
use mathlib.Core.Logic.{◌⊎◌, inl, inr}
use Rattle.records.specs.Pick.{pick}

-- one number is below another or not
pub lt-or-le : (a b : ℕ) → (a < b) ⊎ (b ≤ a)
lt-or-le a b = elim (dec_lt a b) [ yes h ↦ inl h | no h ↦ inr (omega arith) ]

-- one number is another or not
pub eq-or-ne : (a b : ℕ) → (a ≡ b) ⊎ (a ≡ b → ⊥)
eq-or-ne a b = elim (ℕ_discrete a b) [ yes h ↦ inl h | no h ↦ inr h ]

-- a property of both is a property of the one picked
pub either : {A : Type 0} (P : A → Type 0) (b : Bool) {x y : A} → P x → P y → P (pick b x y)
either P true p q = p
either P false p q = q

-- the same, with what the test said in each case
pub either-by : {A : Type 0} (P : A → Type 0) (b : Bool) {x y : A} → (b ≡ true → P x) → (b ≡ false → P y) → P (pick b x y)
either-by P true p q = p refl
either-by P false p q = q refl

-- a test that fails does not hold
pub never : {A : Type 0} → false ≡ true → A
never e = let h : ◌≡◌ {A = ℕ} 0 1 = cc in absurd (omega arith)

-- two tests hold together
pub both : (a b : Bool) → a && b ≡ true → (a ≡ true) × (b ≡ true)
both true b e = (refl, e)
both false b e = (e, never e)
