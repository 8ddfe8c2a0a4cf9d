-- A row's words written as one part of a slice: the words that stand there then, and the rest as it was. Assumes nothing.
use Prim.Native.Nat.{ℕ, zero, suc, ◌+◌, ◌-◌, ◌*◌, ◌≤◌, ◌<◌}
use native.Mathlib.Nat.{zero-add, suc-add, zero-mul, suc-mul, add_comm, mul-le-mul_right}
use native.Mathlib.Omega.{arith}
use mathlib.Core.Path.{◌≡◌, sym, ap, ap₂, ◌∙◌}
use mathlib.Core.List.{List, [], ◌∷◌, ◌++◌, append_assoc, append-nil}
use lib.ListN.{length, take, drop, get_or, replicate, drop_of_length-le}
use lib.Seq.{sets, sets-eq, drop-drop}
use borrow.Rule.Slice.PartMut.{put_mid}
use Rattle.rows.specs.Rows.{flat}
use Rattle.rows.specs.Tables.{Table, rows_of, words_for, Holds, Put}
use Rattle.rows.proofs.Held.{Lawful, row_of, holds-fresh}

-- every word of a slice written
pub filled : (l vs : List ℕ) → length l ≡ length vs → sets l 0 vs ≡ vs
filled l vs h =
    let b : 0 + length vs ≤ length l = omega arith in
    let d : drop (0 + length vs) l ≡ [] = drop_of_length-le l (omega arith) in
    sets-eq vs l 0 b ∙ ap (λ (r : List ℕ). vs ++ r) d ∙ append-nil vs

-- a part of a slice, from a on, written
written : (a k : ℕ) (xs ys zs : List ℕ) → ys ≡ zs → length zs ≡ k → a + k ≤ length xs → put_mid a (a + k - a) xs ys ≡ sets xs a zs
written a k xs ys zs e n h =
    let d : a + k - a ≡ k = omega arith in
    let b : a + length zs ≤ length xs = omega arith in
    rw (d, e)
    (ap (λ (r : List ℕ). take a xs ++ (zs ++ r)) (drop-drop k a xs ∙ ap (λ (j : ℕ). drop (a + j) xs) (sym n))
    ∙ sym (append_assoc (take a xs) zs (drop (a + length zs) xs)) ∙ sym (sets-eq zs xs a b))

-- zeros, a row of them at a time
zeros-more : (k m : ℕ) → replicate {A = ℕ} k 0 ++ replicate m 0 ≡ replicate (k + m) 0
zeros-more zero m = ap (λ (j : ℕ). replicate j 0) (sym (zero-add m))
zeros-more (suc k) m = ap (λ (l : List ℕ). 0 ∷ l) (zeros-more k m) ∙ ap (λ (j : ℕ). replicate j 0) (sym (suc-add k m))

module _ {A : Type 0} {t : Table A} (l : Lawful t) where
  zeros-flat : (n : ℕ) → replicate (n * t.layout.width) 0 ≡ flat t.layout.words_of (replicate n t.blank)
  zeros-flat zero = ap (λ (j : ℕ). replicate j 0) (zero-mul t.layout.width)
  zeros-flat (suc n) =
      let k : ℕ = t.layout.width in
      ap (λ (j : ℕ). replicate j 0) (suc-mul n k ∙ add_comm (n * k) k) ∙ sym (zeros-more k (n * k)) ∙ ap₂ (λ (p q : List ℕ). p ++ q) (sym l.zeros) (zeros-flat n)

  -- zeros hold the table with no record
  pub zeros-hold : (n : ℕ) → n ≡ t.room * t.layout.width → Holds t (replicate n 0) 0 []
  unfolding words_for
  zeros-hold n e =
      let r : t.room - 0 ≡ t.room = omega arith in
      holds-fresh l (replicate n 0)
      (ap (λ (j : ℕ). replicate j 0) e ∙ zeros-flat t.room ∙ ap (λ (j : ℕ). flat t.layout.words_of (replicate j t.blank)) (sym r))

  -- where row i ends
  row-ends : (ws : List ℕ) (i : ℕ) → i < t.room → t.room * t.layout.width ≤ length ws → i * t.layout.width + t.layout.width ≤ length ws
  row-ends ws i h r =
      let m : suc i * t.layout.width ≤ t.room * t.layout.width = mul-le-mul_right t.layout.width h in
      omega (arith, suc-mul i t.layout.width)

  -- what is read of row i
  pub row-read : (ws : List ℕ) (i : ℕ) → i < t.room
      → t.layout.record_of (take (i * t.layout.width + t.layout.width - i * t.layout.width) (drop (i * t.layout.width) ws)) ≡ get_or (rows_of t ws) i t.blank
  row-read ws i h =
      let d : i * t.layout.width + t.layout.width - i * t.layout.width ≡ t.layout.width = omega arith in
      rw d (row_of t ws i h)

  -- the words of u written as row i
  pub row-put : (ws vs : List ℕ) (i : ℕ) (u : A) → i < t.room → t.room * t.layout.width ≤ length ws → vs ≡ t.layout.words_of u
      → t.layout.record_of (t.layout.words_of u) ≡ u
      → Put t ws i u (put_mid (i * t.layout.width) (i * t.layout.width + t.layout.width - i * t.layout.width) ws vs)
  row-put ws vs i u h r e b =
      record { words = written (i * t.layout.width) t.layout.width ws vs (t.layout.words_of u) e (l.long u) (row-ends ws i h r); back = b }
