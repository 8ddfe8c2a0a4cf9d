-- Words written one after the other: a run of them behind another, a copy within the words, and a part that is written over. Assumes nothing.
use Prim.Native.Nat.{ℕ, suc, ◌+◌, ◌≤◌, ◌<◌}
use native.Mathlib.Nat.{add-zero, add-suc, suc-add, zero-add}
use native.Mathlib.Omega.{arith}
use mathlib.Core.Path.{◌≡◌, refl, sym, ap, ◌∙◌}
use mathlib.Core.List.{List, [], ◌∷◌, ◌++◌}
use lib.ListN.{length, take, drop, set, length-drop}
use lib.Seq.{sets, sets-eq, length-sets, paste, set_comm, length-take-le}
use borrow.Rule.Slice.PartMut.{put_mid}
use Rattle.std.proofs.Common.{append_assoc}
use Rattle.std.proofs.lemmas.List.Edits.{paste_all}
use Rattle.std.proofs.lemmas.Slice.{put_mid-paste}
use Rattle.rows.specs.Rows.{moved}

module _ {A : Type 0} where
  pub sets-append : (l : List A) (o : ℕ) (xs ys : List A) → sets l o (xs ++ ys) ≡ sets (sets l o xs) (o + length xs) ys
  sets-append l o [] ys = ap (λ (k : ℕ). sets l k ys) (sym (add-zero o))
  sets-append l o (x ∷ xs) ys =
      sets-append (set l o x) (suc o) xs ys ∙ ap (λ (k : ℕ). sets (sets (set l o x) (suc o) xs) k ys) (suc-add o (length xs) ∙ sym (add-suc o (length xs)))

  pub sets-front : (l vs : List A) → length vs ≤ length l → sets l 0 vs ≡ vs ++ drop (length vs) l
  sets-front l vs h =
      let b : 0 + length vs ≤ length l = omega arith in
      sets-eq vs l 0 b ∙ ap (λ (j : ℕ). vs ++ drop j l) (zero-add (length vs))

  -- a word written behind those that are written, first or last
  pub set-sets : (l : List A) (o : ℕ) (vs : List A) (i : ℕ) (x : A) → o + length vs ≤ i → set (sets l o vs) i x ≡ sets (set l i x) o vs
  set-sets l o [] i x h = refl
  set-sets l o (v ∷ vs) i x h =
      set-sets (set l o v) (suc o) vs i x (omega arith) ∙ ap (λ (m : List A). sets m (suc o) vs) (set_comm l o i v x (λ e. omega arith))

  -- the same before them
  pub set-sets-before : (l : List A) (o : ℕ) (vs : List A) (i : ℕ) (x : A) → i < o → set (sets l o vs) i x ≡ sets (set l i x) o vs
  set-sets-before l o [] i x h = refl
  set-sets-before l o (v ∷ vs) i x h =
      set-sets-before (set l o v) (suc o) vs i x (omega arith) ∙ ap (λ (m : List A). sets m (suc o) vs) (set_comm l o i v x (λ e. omega arith))

  pub length_moved : (to from count : ℕ) (l : List A) → length (moved to from count l) ≡ length l
  length_moved to from count l = length-sets l to (take count (drop from l))

  -- a copy within the words, said by what is written
  pub moved_within : (to from count : ℕ) (l : List A) → from + count ≤ length l → to + count ≤ length l → paste l to (drop from l) count ≡ moved to from count l
  moved_within to from count l f t =
      let vs : List A = take count (drop from l) in
      let n : length vs ≡ count = length-take-le count (drop from l) (omega (arith, length-drop from l)) in
      ap (λ (j : ℕ). take to l ++ vs ++ drop (to + j) l) (sym n) ∙ sym (sets-eq vs l to (omega arith))

  -- a part that is written over
  pub written_over : (l ys vs : List A) (o k : ℕ) → ys ≡ vs → k ≡ length vs → o + k ≤ length l → put_mid o k l ys ≡ sets l o vs
  written_over l ys vs o k e q h =
      put_mid-paste o k l ys vs k e refl q ∙ paste_all l o vs k q ∙ sym (append_assoc (take o l) vs (drop (o + k) l))
      ∙ ap (λ (j : ℕ). take o l ++ vs ++ drop (o + j) l) q ∙ sym (sets-eq vs l o (omega arith))
