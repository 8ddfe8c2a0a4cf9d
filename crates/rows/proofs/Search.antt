-- Rows of words: what is read out of them, and where a search by the first word of each has come to. Assumes nothing.
use Rattle.std.specs.Prelude.{None, Some}
use Prim.Native.Nat.{ℕ, zero, suc, ◌+◌, ◌-◌, ◌*◌, ◌≤◌, ◌<◌}
use native.Mathlib.Nat.{zero-mul, suc-mul, add-mul, add_comm, add-zero, mul-le-mul_right}
use native.Mathlib.Numerals.{add-one}
use native.Mathlib.Omega.{arith}
use mathlib.Core.Path.{◌≡◌, refl, sym, ap, ◌∙◌}
use mathlib.Core.List.{List, []}
use lib.ListN.{length, take, drop, get_or}
use lib.Seq.{drop-drop, get_or-take, get_or-drop}
use Rattle.rows.specs.Lists.{place_of, find_by}
use Rattle.rows.specs.Rows.{rows_from, itself, first_word, Searched}
use Rattle.rows.proofs.Keys.{place-le, place-before, place_after, find-hit, find-miss, found}

module _ {A : Type 0} (k : ℕ) (dec : List ℕ → A) where
  pub length-rows : (n : ℕ) (ws : List ℕ) → length (rows_from k dec n ws) ≡ n
  length-rows zero ws = refl
  length-rows (suc n) ws = ap suc (length-rows n (drop k ws))

  -- a record is read out of its own words
  pub row_at : (n : ℕ) (ws : List ℕ) (i : ℕ) (d : A) → i < n → get_or (rows_from k dec n ws) i d ≡ dec (take k (drop (i * k) ws))
  row_at zero ws i d h = absurd (omega arith)
  row_at (suc n) ws zero d h = ap (λ (j : ℕ). dec (take k (drop j ws))) (sym (zero-mul k))
  row_at (suc n) ws (suc i) d h =
      row_at n (drop k ws) i d (omega arith)
      ∙ ap (λ (l : List ℕ). dec (take k l)) (drop-drop (i * k) k ws ∙ ap (λ (j : ℕ). drop j ws) (add_comm k (i * k) ∙ sym (suc-mul i k)))

-- one word of a row
pub word_at : (k : ℕ) (ws : List ℕ) (m j : ℕ) → j < k → get_or (take k (drop m ws)) j 0 ≡ get_or ws (m + j) 0
word_at k ws m j h = get_or-take k (drop m ws) j 0 h ∙ get_or-drop m ws j 0

-- the same, of a row that is still to be read
pub first-at : (k : ℕ) (ws : List ℕ) (m : ℕ) → 0 < k → get_or ws m 0 ≡ get_or (take k (drop m ws)) 0 0
first-at k ws m h = ap (λ (j : ℕ). get_or ws j 0) (sym (add-zero m)) ∙ sym (word_at k ws m 0 h)

pub next-at : (k : ℕ) (ws : List ℕ) (m j : ℕ) → j < k → get_or ws (m + j) 0 ≡ get_or (take k (drop m ws)) j 0
next-at k ws m j h = sym (word_at k ws m j h)

-- ---- a search

module _ {width n : ℕ} {ws : List ℕ} (s : Searched width n ws) where
  abbrev rows : List (List ℕ)
  rows = rows_from width itself n ws

  -- the place is among the rows, or behind the last
  pub search-le : (key : ℕ) → place_of first_word key rows ≤ n
  search-le key = omega (arith, place-le first_word key rows, length-rows width itself n ws)

  pub row_fits : (i : ℕ) → i < n → i * width < length ws
  row_fits i h =
      let m : suc i * width ≤ n * width = mul-le-mul_right width h in
      omega (arith, s.wide, s.there, suc-mul i width)

  first-word : (i : ℕ) → i < n → first_word (get_or rows i []) ≡ get_or ws (i * width) 0
  first-word i h =
      ap first_word (row_at width itself n ws i [] h) ∙ word_at width ws (i * width) 0 s.wide ∙ ap (λ (j : ℕ). get_or ws j 0) (add-zero (i * width))

  pub search-after : (key i : ℕ) → i < n → get_or ws (i * width) 0 < key → i < place_of first_word key rows
  search-after key i h l =
      place_after first_word 0 key rows i [] s.rising (omega (arith, length-rows width itself n ws)) (omega (arith, first-word i h))

  pub search-before : (key i : ℕ) → i < n → key ≤ get_or ws (i * width) 0 → place_of first_word key rows ≤ i
  search-before key i h l =
      place-before first_word key rows i [] (omega (arith, length-rows width itself n ws)) (omega (arith, first-word i h))

  -- ---- what a look at the place of the key, i, says of what is found

  pub search-end : (key i : ℕ) → i ≡ place_of first_word key rows → n ≤ i → find_by first_word key rows ≡ None
  search-end key i p h = find-miss first_word 0 key rows [] s.rising (λ l e. omega (arith, length-rows width itself n ws))

  pub search-hit : (key i : ℕ) → i ≡ place_of first_word key rows → i < n → get_or ws (i * width) 0 ≡ key → find_by first_word key rows ≡ Some i
  search-hit key i p h e =
      find-hit first_word key rows [] (omega (arith, length-rows width itself n ws)) (rw (← p) (first-word i h ∙ e)) ∙ ap Some (sym p)

  pub search-miss : (key i : ℕ) → i ≡ place_of first_word key rows → i < n → (get_or ws (i * width) 0 ≡ key → ⊥) → find_by first_word key rows ≡ None
  search-miss key i p h e = find-miss first_word 0 key rows [] s.rising (λ l q. e (sym (first-word i h) ∙ (rw (← p) at q)))

  -- what is found is among the rows
  pub search-lt : (key i : ℕ) → find_by first_word key rows ≡ Some i → i < n
  search-lt key i e =
      let f = found first_word 0 key rows i [] s.rising e in
      omega (arith, f.0, f.1.there, length-rows width itself n ws)

-- ---- rows counted in words

-- the rows before row i, row i, and the rows behind it
pub split_rows : (n i width : ℕ) → i < n → i * width + width + (n - 1 - i) * width ≡ n * width
split_rows n i width h =
    let e : suc i + (n - 1 - i) ≡ n = omega arith in
    ap (λ (k : ℕ). k + (n - 1 - i) * width) (sym (suc-mul i width)) ∙ sym (add-mul (suc i) (n - 1 - i) width) ∙ ap (λ (k : ℕ). k * width) e

-- the rows before place i, and those from there on
pub split-place : (n i width : ℕ) → i ≤ n → i * width + (n - i) * width ≡ n * width
split-place n i width h =
    let e : i + (n - i) ≡ n = omega arith in
    sym (add-mul i (n - i) width) ∙ ap (λ (k : ℕ). k * width) e

pub one_more : (n width : ℕ) → (n + 1) * width ≡ n * width + width
one_more n width = ap (λ (k : ℕ). k * width) (add-one n) ∙ suc-mul n width
