-- Numbers put into a list at a place, the rest moved up by one; and writing a list's own front changes nothing. Assumes nothing.
use Prim.Native.Nat.{ℕ, suc, ◌+◌, ◌-◌, ◌≤◌, ◌<◌}
use native.Mathlib.Nat.{zero-add}
use native.Mathlib.Numerals.{add-one}
use native.Mathlib.Omega.{arith}
use mathlib.Core.Path.{◌≡◌, refl, sym, ap, ap₂, ◌∙◌}
use mathlib.Core.List.{List, [], ◌∷◌, ◌++◌}
use lib.ListN.{length, take, drop, set, length-set, length-drop, take-append-drop}
use lib.Seq.{sets, sets-eq, slice, take-take, take-set-lt, drop-set-lt, length-take-le}
use Rattle.std.specs.List.{copy_within}
use Rattle.std.proofs.lemmas.List.{set_comm}
use Rattle.std.proofs.lemmas.Slice.{between_is}
use Rattle.rows.proofs.Sets.{sets-append}

-- ---- moving up

slice_set : (i n c : ℕ) (w : List ℕ) → i < n → slice (suc i) n (set w i c) ≡ slice (suc i) n w
slice_set i n c w h = ap (drop (suc i)) (take-set-lt n w i c h) ∙ drop-set-lt (suc i) (take n w) i c (omega arith)

module _ {A : Type 0} where
  -- a store before a run of stores
  set-sets : (l : List A) (o p : ℕ) (x : A) (vs : List A) → p < o → set (sets l o vs) p x ≡ sets (set l p x) o vs
  set-sets l o p x [] h = refl
  set-sets l o p x (v ∷ vs) h =
      set-sets (set l o v) (suc o) p x vs (omega arith) ∙ ap (λ (w : List A). sets w (suc o) vs) (set_comm l o p v x (λ e. absurd (omega arith)))

  -- what stands from p to n copied one up, and x at p
  pub insert-is : (l : List A) (n p : ℕ) (x : A) → p ≤ n → n < length l → set (copy_within l p n (p + 1)) p x ≡ sets l p (x ∷ slice p n l)
  insert-is l n p x h b =
      let m : length (slice p n l) ≡ n - p = length-drop p (take n l) ∙ ap (λ (k : ℕ). k - p) (length-take-le n l (omega arith)) in
      let c : copy_within l p n (p + 1) ≡ sets l (suc p) (slice p n l) =
      ap₂ (λ (zs : List A) (k : ℕ). take (p + 1) l ++ zs ++ drop (p + 1 + k) l) (between_is l p n) (sym m)
      ∙ sym (sets-eq (slice p n l) l (p + 1) (omega arith))
      ∙ ap (λ (k : ℕ). sets l k (slice p n l)) (add-one p) in
      ap (λ (w : List A). set w p x) c ∙ set-sets l (suc p) p x (slice p n l) (omega arith)

-- ---- a list's own front

pub front_same : (l : List ℕ) (n : ℕ) → n ≤ length l → sets l 0 (take n l) ≡ l
front_same l n h =
    let e : length (take n l) ≡ n = length-take-le n l h in
    sets-eq (take n l) l 0 (omega arith)
    ∙ ap (λ (k : ℕ). take n l ++ drop k l) (zero-add (length (take n l)) ∙ e)
    ∙ take-append-drop n l

-- writing the front and then others is writing the others behind it
pub front-on : (l : List ℕ) (n p : ℕ) (zs : List ℕ) → p ≤ n → n ≤ length l → sets l 0 (take p (take n l) ++ zs) ≡ sets l p zs
front-on l n p zs h b =
    let e : length (take p l) ≡ p = length-take-le p l (omega arith) in
    ap (λ (f : List ℕ). sets l 0 (f ++ zs)) (take-take p n l h)
    ∙ sets-append l 0 (take p l) zs
    ∙ ap₂ (λ (v : List ℕ) (k : ℕ). sets v k zs) (front_same l p (omega arith)) (zero-add (length (take p l)) ∙ e)

pub slice-same : (l : List ℕ) (n p : ℕ) → p ≤ n → n ≤ length l → sets l p (slice p n l) ≡ l
slice-same l n p h b =
    sym (front-on l n p (slice p n l) h b) ∙ ap (sets l 0) (take-append-drop p (take n l)) ∙ front_same l n b

-- one number in place of another
pub front-set : (l : List ℕ) (n p y : ℕ) → p < n → n ≤ length l → sets l 0 (take p (take n l) ++ (y ∷ drop (suc p) (take n l))) ≡ set l p y
front-set l n p y h b =
    let e = length-set l p y in
    front-on l n p (y ∷ drop (suc p) (take n l)) (omega arith) b
    ∙ ap (sets (set l p y) (suc p)) (sym (slice_set p n y l h))
    ∙ slice-same (set l p y) n (suc p) (omega arith) (omega arith)
