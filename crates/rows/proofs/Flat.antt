-- Records in words, one after the other: parts of the words are the words of parts of the records. And what moving rows does to the records. Over
-- any type of records, their width k, and how they are written. Assumes nothing.
use Prim.Native.Nat.{ℕ, zero, suc, ◌+◌, ◌-◌, ◌*◌, ◌≤◌, ◌<◌}
use native.Mathlib.Nat.{zero-mul, suc-mul, add-mul, add_comm, mul-le-mul_right}
use native.Mathlib.Omega.{arith}
use mathlib.Core.Path.{◌≡◌, refl, sym, ap, ap₂, ◌∙◌}
use mathlib.Core.List.{List, [], ◌∷◌, ◌++◌, map, append_assoc}
use lib.ListN.{length, take, drop, set, replicate, length-append, length-take}
use lib.Seq.{sets, sets-eq, take_at, drop_at, take-nil, drop-nil, take-append-add, drop-append-add}
use Rattle.rows.specs.Lists.{remove_at, insert_at, pad_to}
use Rattle.rows.specs.Rows.{rows_from, flat, moved, closed, opened}
use Rattle.rows.proofs.Sets.{sets-append, sets-front, length_moved}

append-nil : {A : Type 0} (xs : List A) → xs ++ [] ≡ xs
append-nil [] = refl
append-nil (x ∷ xs) = ap (λ (l : List _). x ∷ l) (append-nil xs)

module _ {A : Type 0} (k : ℕ) (enc : A → List ℕ) (long : (x : A) → length (enc x) ≡ k) where
  pub length-flat : (xs : List A) → length (flat enc xs) ≡ length xs * k
  length-flat [] = sym (zero-mul k)
  length-flat (x ∷ xs) =
      length-append (enc x) (flat enc xs) ∙ ap₂ (λ (a b : ℕ). a + b) (long x) (length-flat xs) ∙ add_comm k (length xs * k) ∙ sym (suc-mul (length xs) k)

  pub flat_append : (xs ys : List A) → flat enc (xs ++ ys) ≡ flat enc xs ++ flat enc ys
  flat_append [] ys = refl
  flat_append (x ∷ xs) ys = ap (λ (l : List ℕ). enc x ++ l) (flat_append xs ys) ∙ sym (append_assoc (enc x) (flat enc xs) (flat enc ys))

  -- the first i records, and those behind them
  pub flat-take : (i : ℕ) (xs : List A) → take (i * k) (flat enc xs) ≡ flat enc (take i xs)
  flat-take zero xs = ap (λ (j : ℕ). take j (flat enc xs)) (zero-mul k)
  flat-take (suc i) [] = take-nil (suc i * k)
  flat-take (suc i) (x ∷ xs) =
      ap (λ (j : ℕ). take j (enc x ++ flat enc xs)) (suc-mul i k ∙ add_comm (i * k) k ∙ ap (λ (j : ℕ). j + i * k) (sym (long x)))
      ∙ take-append-add (enc x) (flat enc xs) (i * k) ∙ ap (λ (l : List ℕ). enc x ++ l) (flat-take i xs)

  pub flat-drop : (i : ℕ) (xs : List A) → drop (i * k) (flat enc xs) ≡ flat enc (drop i xs)
  flat-drop zero xs = ap (λ (j : ℕ). drop j (flat enc xs)) (zero-mul k)
  flat-drop (suc i) [] = drop-nil (suc i * k)
  flat-drop (suc i) (x ∷ xs) =
      ap (λ (j : ℕ). drop j (enc x ++ flat enc xs)) (suc-mul i k ∙ add_comm (i * k) k ∙ ap (λ (j : ℕ). j + i * k) (sym (long x)))
      ∙ drop-append-add (enc x) (flat enc xs) (i * k) ∙ flat-drop i xs

  -- records written over others
  pub flat-sets : (xs : List A) (i : ℕ) (ys : List A) → i + length ys ≤ length xs → sets (flat enc xs) (i * k) (flat enc ys) ≡ flat enc (sets xs i ys)
  flat-sets xs i ys h =
      let e : i * k + length (flat enc ys) ≡ (i + length ys) * k = ap (λ (j : ℕ). i * k + j) (length-flat ys) ∙ sym (add-mul i (length ys) k) in
      let b : i * k + length (flat enc ys) ≤ length (flat enc xs) = omega (arith, length-flat xs, mul-le-mul_right k h) in
      sets-eq (flat enc ys) (flat enc xs) (i * k) b
      ∙ ap₂ (λ (p q : List ℕ). p ++ flat enc ys ++ q) (flat-take i xs) (ap (λ (j : ℕ). drop j (flat enc xs)) e ∙ flat-drop (i + length ys) xs)
      ∙ ap (λ (l : List ℕ). l ++ flat enc (drop (i + length ys) xs)) (sym (flat_append (take i xs) ys))
      ∙ sym (flat_append (take i xs ++ ys) (drop (i + length ys) xs)) ∙ ap (flat enc) (sym (sets-eq ys xs i h))

  pub flat-set : (xs : List A) (i : ℕ) (u : A) → i < length xs → sets (flat enc xs) (i * k) (enc u) ≡ flat enc (set xs i u)
  flat-set xs i u h =
      let b : i + length (u ∷ []) ≤ length xs = omega arith in
      ap (sets (flat enc xs) (i * k)) (sym (append-nil (enc u))) ∙ flat-sets xs i (u ∷ []) b

  pub flat-moved : (to from count : ℕ) (xs : List A) → to + count ≤ length xs
      → moved (to * k) (from * k) (count * k) (flat enc xs) ≡ flat enc (moved to from count xs)
  flat-moved to from count xs h =
      let b : to + length (take count (drop from xs)) ≤ length xs = omega (arith, length-take count (drop from xs)) in
      ap (sets (flat enc xs) (to * k)) (ap (take (count * k)) (flat-drop from xs) ∙ flat-take count (drop from xs)) ∙ flat-sets xs to (take count (drop from xs)) b

  -- words written and read again: each record as it reads
  pub rows-flat : {B : Type 0} (dec : List ℕ → B) (xs : List A) (rest : List ℕ)
      → rows_from k dec (length xs) (flat enc xs ++ rest) ≡ map (λ (x : A). dec (enc x)) xs
  rows-flat dec [] rest = refl
  rows-flat dec (x ∷ xs) rest =
      let e : (enc x ++ flat enc xs) ++ rest ≡ enc x ++ (flat enc xs ++ rest) = append_assoc (enc x) (flat enc xs) rest in
      ap₂ (λ (y : _) (l : List _). y ∷ l) (ap (λ (l : List ℕ). dec (take k l)) e ∙ ap dec (take_at (enc x) (flat enc xs ++ rest) k (long x)))
      (ap (λ (l : List ℕ). rows_from k dec (length xs) (drop k l)) e
      ∙ ap (rows_from k dec (length xs)) (drop_at (enc x) (flat enc xs ++ rest) k (long x)) ∙ rows-flat dec xs rest)

  -- ---- rows moved, in words

  pub flat-closed : (n i : ℕ) (b : A) (xs : List A) → enc b ≡ replicate k 0 → i < n → n ≤ length xs
      → closed k n i (flat enc xs) ≡ flat enc (set (moved i (suc i) (n - 1 - i) xs) (n - 1) b)
  flat-closed n i b xs z h l =
      let p : i + (n - 1 - i) ≡ n - 1 = omega arith in
      let q : i * k + (n - 1 - i) * k ≡ (n - 1) * k = sym (add-mul i (n - 1 - i) k) ∙ ap (λ (j : ℕ). j * k) p in
      let m : i + (n - 1 - i) ≤ length xs = omega arith in
      let f : n - 1 < length (moved i (suc i) (n - 1 - i) xs) = omega (arith, length_moved i (suc i) (n - 1 - i) xs) in
      ap₂ (λ (s : ℕ) (l : List ℕ). sets (moved (i * k) s ((n - 1 - i) * k) (flat enc xs)) (i * k + (n - 1 - i) * k) l) (sym (suc-mul i k)) (sym z)
      ∙ ap₂ (λ (l : List ℕ) (o : ℕ). sets l o (enc b)) (flat-moved i (suc i) (n - 1 - i) xs m) q
      ∙ flat-set (moved i (suc i) (n - 1 - i) xs) (n - 1) b f

  pub flat-opened : (n i : ℕ) (xs : List A) → i ≤ n → n < length xs → opened k n i (flat enc xs) ≡ flat enc (moved (suc i) i (n - i) xs)
  flat-opened n i xs h l =
      let m : suc i + (n - i) ≤ length xs = omega arith in
      ap (λ (s : ℕ). moved s (i * k) ((n - i) * k) (flat enc xs)) (sym (suc-mul i k)) ∙ flat-moved (suc i) i (n - i) xs m

-- ---- rows moved, as lists

module _ {A : Type 0} where
  sets-suc : (x : A) (l : List A) (i : ℕ) (vs : List A) → sets (x ∷ l) (suc i) vs ≡ x ∷ sets l i vs
  sets-suc x l i [] = refl
  sets-suc x l i (v ∷ vs) = sets-suc x (set l i v) (suc i) vs

  pub length-remove_at : (i : ℕ) (xs : List A) → i < length xs → suc (length (remove_at i xs)) ≡ length xs
  length-remove_at i [] h = absurd (omega arith)
  length-remove_at zero (x ∷ xs) h = refl
  length-remove_at (suc i) (x ∷ xs) h = ap suc (length-remove_at i xs (omega arith))

  pub length-insert_at : (i : ℕ) (a : A) (xs : List A) → length (insert_at i a xs) ≡ suc (length xs)
  length-insert_at zero a xs = refl
  length-insert_at (suc i) a [] = refl
  length-insert_at (suc i) a (x ∷ xs) = ap suc (length-insert_at i a xs)

  -- the rows behind i moved down, and b in the last place
  removes : (i : ℕ) (xs ps : List A) (b : A) → i < length xs
      → set (moved i (suc i) (length xs - 1 - i) (xs ++ ps)) (length xs - 1) b ≡ remove_at i xs ++ b ∷ ps
  removes i [] ps b h = absurd (omega arith)
  removes zero (x ∷ xs) ps b h =
      let e : length (x ∷ xs) - 1 - 0 ≡ length xs = omega arith in
      let f : length (x ∷ xs) - 1 ≡ 0 + length xs = omega arith in
      let l : length (xs ++ (b ∷ [])) ≡ suc (length xs) = length-append xs (b ∷ []) ∙ omega arith in
      let s : length (xs ++ (b ∷ [])) ≤ length (x ∷ (xs ++ ps)) = omega (arith, length-append xs ps) in
      ap₂ (λ (m : ℕ) (o : ℕ). set (sets (x ∷ (xs ++ ps)) 0 (take m (xs ++ ps))) o b) e f
      ∙ ap (λ (vs : List A). sets (sets (x ∷ (xs ++ ps)) 0 vs) (0 + length xs) (b ∷ [])) (take_at xs ps (length xs) refl)
      ∙ sym (sets-append (x ∷ (xs ++ ps)) 0 xs (b ∷ []))
      ∙ sets-front (x ∷ (xs ++ ps)) (xs ++ (b ∷ [])) s
      ∙ ap (λ (m : ℕ). (xs ++ (b ∷ [])) ++ drop m (x ∷ (xs ++ ps))) l
      ∙ ap (λ (r : List A). (xs ++ (b ∷ [])) ++ r) (drop_at xs ps (length xs) refl)
      ∙ append_assoc xs (b ∷ []) ps
  removes (suc i) (x ∷ xs) ps b h =
      let e : length (x ∷ xs) - 1 - suc i ≡ length xs - 1 - i = omega arith in
      let f : length (x ∷ xs) - 1 ≡ suc (length xs - 1) = omega arith in
      ap₂ (λ (m : ℕ) (o : ℕ). set (sets (x ∷ (xs ++ ps)) (suc i) (take m (drop (suc i) (xs ++ ps)))) o b) e f
      ∙ ap (λ (l : List A). set l (suc (length xs - 1)) b) (sets-suc x (xs ++ ps) i (take (length xs - 1 - i) (drop (suc i) (xs ++ ps))))
      ∙ ap (λ (l : List A). x ∷ l) (removes i xs ps b (omega arith))

  -- the rows from i on moved up, and u at i
  inserts : (i : ℕ) (xs : List A) (p : A) (ps : List A) (u : A) → i ≤ length xs
      → set (moved (suc i) i (length xs - i) (xs ++ p ∷ ps)) i u ≡ insert_at i u xs ++ ps
  inserts zero [] p ps u h = refl
  inserts zero (x ∷ xs) p ps u h =
      let t : List A = xs ++ p ∷ ps in
      let e : length (x ∷ xs) - 0 ≡ length (x ∷ xs) = omega arith in
      let s : length (x ∷ xs) ≤ length t = omega (arith, length-append xs (p ∷ ps)) in
      let o : length (x ∷ xs) ≡ length xs + 1 = omega arith in
      let d : drop (length (x ∷ xs)) t ≡ ps = ap (λ (m : ℕ). drop m t) o ∙ drop-append-add xs (p ∷ ps) 1 in
      ap (λ (m : ℕ). set (sets (x ∷ t) 1 (take m (x ∷ t))) 0 u) e
      ∙ ap (λ (vs : List A). set (sets (x ∷ t) 1 vs) 0 u) (take_at (x ∷ xs) (p ∷ ps) (length (x ∷ xs)) refl)
      ∙ ap (λ (l : List A). set l 0 u) (sets-suc x t 0 (x ∷ xs))
      ∙ ap (λ (l : List A). u ∷ l) (sets-front t (x ∷ xs) s ∙ ap (λ (l : List A). x ∷ (xs ++ l)) d)
  inserts (suc i) [] p ps u h = absurd (omega arith)
  inserts (suc i) (x ∷ xs) p ps u h =
      let e : length (x ∷ xs) - suc i ≡ length xs - i = omega arith in
      let l : List A = xs ++ p ∷ ps in
      ap (λ (m : ℕ). set (sets (x ∷ l) (suc (suc i)) (take m (drop i l))) (suc i) u) e
      ∙ ap (λ (y : List A). set y (suc i) u) (sets-suc x l (suc i) (take (length xs - i) (drop i l)))
      ∙ ap (λ (y : List A). x ∷ y) (inserts i xs p ps u (omega arith))

  -- the same of a table's rows, blanks behind
  pub pad-removed : (room : ℕ) (b : A) (xs : List A) (i : ℕ) → i < length xs → length xs ≤ room
      → set (moved i (suc i) (length xs - 1 - i) (pad_to room b xs)) (length xs - 1) b ≡ pad_to room b (remove_at i xs)
  pad-removed room b xs i h n =
      let e : room - length (remove_at i xs) ≡ suc (room - length xs) = omega (arith, length-remove_at i xs h) in
      removes i xs (replicate (room - length xs) b) b h ∙ ap (λ (m : ℕ). remove_at i xs ++ replicate m b) (sym e)

  pub pad-inserted : (room : ℕ) (b : A) (xs : List A) (i : ℕ) (u : A) → i ≤ length xs → length xs < room
      → set (moved (suc i) i (length xs - i) (pad_to room b xs)) i u ≡ pad_to room b (insert_at i u xs)
  pad-inserted room b xs i u h n =
      let e : room - length xs ≡ suc (room - length (insert_at i u xs)) = omega (arith, length-insert_at i u xs) in
      ap (λ (m : ℕ). set (moved (suc i) i (length xs - i) (xs ++ replicate m b)) i u) e ∙ inserts i xs b (replicate (room - length (insert_at i u xs)) b) u h
