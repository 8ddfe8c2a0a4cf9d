-- The comparison of a case, byte by byte, and that it finds the run's answers and the stored ones the same exactly if they are. Assumes nothing.
use Prim.Native.Nat.{ℕ, zero, suc, ◌+◌, ◌-◌, ◌≤◌, ◌<◌}
use native.Mathlib.Numerals.{add-one}
use native.Mathlib.Nat.{add-zero, sub-zero}
use native.Mathlib.Omega.{arith}
use mathlib.Core.Path.{◌≡◌, refl, sym, ap, ap₂, ◌∙◌}
use mathlib.Core.Bool.{Bool, true, false, ◌&&◌}
use mathlib.Core.Logic.{⊎_elim}
use mathlib.Core.List.{List, [], ◌∷◌, ◌++◌, append_assoc}
use lib.ListN.{length, get_or, take, drop, replicate, length-replicate, replicate-append-replicate}
use lib.Seq.{drop-cons, get_or-drop, drop-drop}
use lib.Dec.{eqb}
use borrow.Author.Tests.{eq-eqb, ne_eqb, eqb-true}
use Rattle.records.proofs.Cases.{eq-or-ne, both}
use Rattle.runs.specs.Run.{run_bytes, Ran}
use Rattle.replay.specs.Judging.{same, holds, agrees_of}

-- inside a list it does not matter what would stand past its end
pub get_d-inside : (l : List ℕ) (i d e : ℕ) → i < length l → get_or l i d ≡ get_or l i e
get_d-inside [] i d e h = absurd (omega arith)
get_d-inside (x ∷ l) zero d e h = refl
get_d-inside (x ∷ l) (suc i) d e h = get_d-inside l i d e (omega arith)

-- ---- the loop: what is left to compare, from place i on

module _ (out answers : List ℕ) (i : ℕ) (h : i < length out) where
  unroll : holds (drop i answers) (drop i out) ≡ eqb (get_or out i 0) (get_or answers i 165) && holds (drop (i + 1) answers) (drop (i + 1) out)
  unroll =
      ap (holds (drop i answers)) (drop-cons out i 0 h)
      ∙ ap₂ (λ (x : ℕ) (l : List ℕ). eqb (get_or out i 0) x && holds l (drop (suc i) out)) (get_or-drop i answers 0 165 ∙ ap (λ (k : ℕ). get_or answers k 165) (add-zero i)) (drop-drop 1 i answers)
      ∙ ap (λ (k : ℕ). eqb (get_or out i 0) (get_or answers i 165) && holds (drop (i + 1) answers) (drop k out)) (sym (add-one i))

  pub turn : get_or out i 0 ≡ get_or answers i 165 → holds (drop (i + 1) answers) (drop (i + 1) out) ≡ holds (drop i answers) (drop i out)
  turn e = sym (unroll ∙ rw (eq-eqb _ _ e))

  pub differs : (get_or out i 0 ≡ get_or answers i 165 → ⊥) → holds (drop i answers) (drop i out) ≡ false
  differs n = unroll ∙ rw (ne_eqb _ _ n)

-- ---- a case: the run's bytes and past them the pattern

pattern-held : (k : ℕ) → holds [] (replicate k 165) ≡ true
pattern-held zero = refl
pattern-held (suc k) = pattern-held k

held : (r a : List ℕ) (k : ℕ) → length r ≡ length a → holds a (r ++ replicate k 165) ≡ same r a
held [] [] k e = pattern-held k
held [] (y ∷ a) k e = absurd (omega arith)
held (x ∷ r) [] k e = absurd (omega arith)
held (x ∷ r) (y ∷ a) k e = ap (λ (b : Bool). eqb x y && b) (held r a k (omega arith))

other_length : (r a : List ℕ) → (length r ≡ length a → ⊥) → same r a ≡ false
other_length [] [] n = absurd (n refl)
other_length [] (y ∷ a) n = refl
other_length (x ∷ r) [] n = refl
other_length (x ∷ r) (y ∷ a) n = ap (λ (b : Bool). eqb x y && b) (other_length r a (λ e. n (ap suc e))) ∙ never_both (eqb x y)
  where
    never_both : (b : Bool) → b && false ≡ false
    never_both true = refl
    never_both false = refl

agreed : (r a : List ℕ) (k : ℕ) → agrees_of (r ++ replicate k 165) (length r) a ≡ same r a
agreed r a k =
    ⊎_elim
    (λ (e : length r ≡ length a). rw (eq-eqb _ _ e) (held r a k e))
    (λ (n : length r ≡ length a → ⊥). rw (ne_eqb _ _ n) (sym (other_length r a n)))
    (eq-or-ne (length r) (length a))

take-pattern : (i n x : ℕ) → i ≤ n → take i (replicate n x) ≡ replicate i x
take-pattern zero n x h = refl
take-pattern (suc i) zero x h = absurd (omega arith)
take-pattern (suc i) (suc n) x h = ap (λ (l : List ℕ). x ∷ l) (take-pattern i n x (omega arith))

drop-pattern : (i n x : ℕ) → drop i (replicate n x) ≡ replicate (n - i) x
drop-pattern zero n x = ap (λ (k : ℕ). replicate k x) (sym (sub-zero n))
drop-pattern (suc i) zero x = ap (λ (k : ℕ). replicate k x) (let e : 0 ≡ 0 - suc i = omega arith in e)
drop-pattern (suc i) (suc n) x = drop-pattern i n x ∙ ap (λ (k : ℕ). replicate k x) (let e : n - i ≡ suc n - suc i = omega arith in e)

-- the run was lent as much of the pattern as the capacity, and with the rest behind it the output is compared
module _ (s a : List ℕ) (total : ℕ) {d' p : List ℕ} {capacity n : ℕ} where
  pub judged : p ≡ replicate total 165 → capacity ≤ total → Ran s (take capacity p) n d' → agrees_of (d' ++ drop capacity p) n a ≡ same (run_bytes s capacity) a
  judged e h q =
      let r : List ℕ = run_bytes s capacity in
      let lent : take capacity p ≡ replicate capacity 165 = ap (take capacity) e ∙ take-pattern capacity total 165 h in
      let long : length (take capacity p) ≡ capacity = ap length lent ∙ length-replicate capacity 165 in
      let count : n ≡ length r = q.count ∙ ap (λ (c : ℕ). length (run_bytes s c)) long in
      let out : d' ≡ r ++ replicate (capacity - length r) 165 =
      q.bytes ∙ ap₂ (λ (c : ℕ) (l : List ℕ). run_bytes s c ++ drop (length (run_bytes s c)) l) long lent ∙ ap (λ (l : List ℕ). r ++ l) (drop-pattern (length r) capacity 165) in
      let all : d' ++ drop capacity p ≡ r ++ replicate (capacity - length r + (total - capacity)) 165 =
      ap₂ (λ (x y : List ℕ). x ++ y) out (ap (drop capacity) e ∙ drop-pattern capacity total 165)
      ∙ append_assoc r (replicate (capacity - length r) 165) (replicate (total - capacity) 165)
      ∙ ap (λ (l : List ℕ). r ++ l) (replicate-append-replicate (capacity - length r) (total - capacity) 165) in
      ap₂ (λ (l : List ℕ) (m : ℕ). agrees_of l m a) all count ∙ agreed r a (capacity - length r + (total - capacity))

-- two lists that compare the same are one
pub same-is : (r a : List ℕ) → same r a ≡ true → r ≡ a
same-is [] [] e = refl
same-is [] (y ∷ a) e = absurd (let h : ◌≡◌ {A = ℕ} 0 1 = cc in omega arith)
same-is (x ∷ r) [] e = absurd (let h : ◌≡◌ {A = ℕ} 0 1 = cc in omega arith)
same-is (x ∷ r) (y ∷ a) e =
    let p = both (eqb x y) (same r a) e in
    ap₂ (λ (z : ℕ) (l : List ℕ). z ∷ l) (eqb-true x y p.0) (same-is r a p.1)
