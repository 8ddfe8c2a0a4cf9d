-- Fourteen bytes are zero exactly where the numbers that they are read as are.
use Prim.Native.Nat.{ℕ, ◌+◌, ◌*◌, ◌≤◌}
use mathlib.Core.Path.{◌≡◌, refl, sym, ap, ◌∙◌}
use mathlib.Core.Bool.{Bool, true, false, ◌&&◌}
use mathlib.Core.List.{List}
use mathlib.Core.Logic.{inl, inr}
use native.Mathlib.Omega.{arith}
use lib.Dec.{eqb}
use lib.ListN.{length}
use borrow.Author.Tests.{eq-eqb, ne_eqb}
use Rattle.records.specs.Pick.{pick}
use Rattle.records.proofs.Cases.{eq-or-ne}
use Rattle.fields.specs.Bytes.{number}
use Rattle.fields.proofs.Widths.{le-more}

pub itself : (t : Bool) → t ≡ pick t true false
itself true = refl
itself false = refl

split : (at : ℕ) (b : List ℕ) → at + 14 ≤ length b
    → number 14 at b ≡ number 8 at b + 18446744073709551616 * (number 4 (at + 8) b + 4294967296 * number 2 (at + 12) b)
split at b h =
    let e : at + 8 + 4 ≡ at + 12 = omega arith in
    le-more 8 6 at b (omega arith)
    ∙ ap (λ (n : ℕ). number 8 at b + 18446744073709551616 * n)
    (le-more 4 2 (at + 8) b (omega arith) ∙ ap (λ (k : ℕ). number 4 (at + 8) b + 4294967296 * number 2 k b) e)

module _ (n x y z : ℕ) (e : n ≡ x + 18446744073709551616 * (y + 4294967296 * z)) where
  first-told : (x ≡ 0 → ⊥) → false ≡ eqb n 0
  first-told h = sym (ne_eqb n 0 (λ k. h (omega arith)))

  second-told : (y ≡ 0 → ⊥) → false ≡ eqb n 0
  second-told h = sym (ne_eqb n 0 (λ k. h (omega arith)))

  third-told : x ≡ 0 → y ≡ 0 → eqb z 0 ≡ eqb n 0
  third-told p q =
      elim (eq-or-ne z 0) [
        | inl h ↦ eq-eqb z 0 h ∙ sym (eq-eqb n 0 (omega arith))
        | inr h ↦ ne_eqb z 0 h ∙ sym (ne_eqb n 0 (λ k. h (omega arith)))
      ]

module _ (at : ℕ) (b : List ℕ) (h : at + 14 ≤ length b) where
  pub first : (x : ℕ) → x ≡ number 8 at b → (x ≡ 0 → ⊥) → false ≡ eqb (number 14 at b) 0
  first x e n = first-told _ _ _ _ (split at b h) (λ k. n (e ∙ k))

  pub second : (y : ℕ) → y ≡ number 4 (at + 8) b → (y ≡ 0 → ⊥) → false ≡ eqb (number 14 at b) 0
  second y e n = second-told _ _ _ _ (split at b h) (λ k. n (e ∙ k))

  pub third : (x y z : ℕ) → x ≡ number 8 at b → y ≡ number 4 (at + 8) b → z ≡ number 2 (at + 12) b → x ≡ 0 → y ≡ 0 → eqb z 0 ≡ eqb (number 14 at b) 0
  third x y z e f g p q = ap (λ (k : ℕ). eqb k 0) g ∙ third-told _ _ _ _ (split at b h) (sym e ∙ p) (sym f ∙ q)

  pub zeros : (x y z : ℕ) → x ≡ number 8 at b → y ≡ number 4 (at + 8) b → z ≡ number 2 (at + 12) b → ((eqb x 0 && eqb y 0) && eqb z 0) ≡ eqb (number 14 at b) 0
  zeros x y z e f g =
      elim (eq-or-ne x 0) [
        | inl p ↦
            elim (eq-or-ne y 0) [
              | inl q ↦ rw (eq-eqb x 0 p, eq-eqb y 0 q) (third x y z e f g p q)
              | inr q ↦ rw (eq-eqb x 0 p, ne_eqb y 0 q) (second y f q)
            ]
        | inr p ↦ rw (ne_eqb x 0 p) (first x e p)
      ]
