-- Laws of lists that the claims share: what a look-up says of what it finds, and properties of all records. Assumes nothing.
use Rattle.std.specs.Prelude.{None, Some}
use Prim.Native.Nat.{ℕ, suc, ◌≤◌, ◌<◌}
use native.Mathlib.Omega.{arith}
use mathlib.Core.Path.{◌≡◌, refl, sym, ap, ◌∙◌}
use mathlib.Core.Bool.{Bool, true, false}
use mathlib.Core.List.{List, [], ◌∷◌, ◌++◌}
use mathlib.Core.Logic.{⊎_elim}
use lib.Dec.{eqb}
use borrow.Author.Tests.{eqb-true, ne_eqb}
use Rattle.records.specs.Pick.{pick}
use Rattle.records.proofs.Cases.{lt-or-le}
use Rattle.rows.specs.Lists.{All, Rising, lookup}
use Rattle.rows.specs.Moves.{any_of, first_of}
use Rattle.rows.proofs.Promises.{lookup-past}
use Rattle.model.specs.Claims.{is_there}

pub some_is : {A : Type 0} {x y : A} → Some x ≡ Some y → x ≡ y
some_is e = cc

pub none-not : {A : Type 0} {x : A} → None ≡ Some x → ⊥
none-not e = let z : ◌≡◌ {A = ℕ} 0 1 = cc in omega arith

pub all_map : {A : Type 0} {P Q : A → Type 0} → ((x : A) → P x → Q x) → (xs : List A) → All P xs → All Q xs
all_map f [] a = tt
all_map f (x ∷ xs) a = (f x a.0, all_map f xs a.1)

pub all_append : {A : Type 0} (P : A → Type 0) (xs ys : List A) → All P xs → All P ys → All P (xs ++ ys)
all_append P [] ys a b = b
all_append P (x ∷ xs) ys a b = (a.0, all_append P xs ys a.1 b)

module _ {A : Type 0} (key : A → ℕ) (k : ℕ) where
  pub first-lookup : (xs : List A) → first_of (λ (x : A). eqb (key x) k) xs ≡ lookup key k xs
  first-lookup [] = refl
  first-lookup (x ∷ xs) = ap (pick (eqb (key x) k) (Some x)) (first-lookup xs)

  pub any-lookup : (xs : List A) → any_of (λ (x : A). eqb (key x) k) xs ≡ is_there (lookup key k xs)
  any-lookup [] = refl
  any-lookup (x ∷ xs) = go (eqb (key x) k) (any-lookup xs)
    where
      go : (b : Bool) → any_of (λ (x : A). eqb (key x) k) xs ≡ is_there (lookup key k xs)
          → pick b true (any_of (λ (x : A). eqb (key x) k) xs) ≡ is_there (pick b (Some x) (lookup key k xs))
      go true e = refl
      go false e = e

  -- what is found has the key, and what all have
  pub lookup-all : (P : A → Type 0) (xs : List A) {x : A} → All P xs → lookup key k xs ≡ Some x → (key x ≡ k) × P x
  lookup-all P [] a e = absurd (none-not e)
  lookup-all P (y ∷ ys) {x} a e = go (eqb (key y) k) refl e (lookup-all P ys a.1)
    where
      go : (b : Bool) → eqb (key y) k ≡ b → pick b (Some y) (lookup key k ys) ≡ Some x → (lookup key k ys ≡ Some x → (key x ≡ k) × P x) → (key x ≡ k) × P x
      go true q e ih = let i : y ≡ x = some_is e in rw (← i) (eqb-true (key y) k q, a.0)
      go false q e ih = ih e

  pub lookup_key : (xs : List A) {x : A} → lookup key k xs ≡ Some x → key x ≡ k
  lookup_key xs e = (lookup-all (λ (y : A). Unit {0}) xs (every xs) e).0
    where
      every : (xs : List A) → All (λ (y : A). Unit {0}) xs
      every [] = tt
      every (x ∷ xs) = (tt, every xs)

  -- where keys rise, what is found behind a record is found with it before
  pub lookup-further : (y : A) (ys : List A) {x : A} → Rising key (suc (key y)) ys → lookup key k ys ≡ Some x → lookup key k (y ∷ ys) ≡ Some x
  lookup-further y ys r e =
      ⊎_elim
      (λ (l : k < suc (key y)). absurd (none-not (sym (lookup-past key (suc (key y)) k ys r l) ∙ e)))
      (λ (l : suc (key y) ≤ k). rw (ne_eqb (key y) k (λ q. omega arith)) e)
      (lt-or-le k (suc (key y)))
