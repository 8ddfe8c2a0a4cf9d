-- The laws of tables in lent words. A table is told by its list: what each change of words makes of it. Over any kind of table whose layout is
-- lawful. Assumes nothing.
use Rattle.std.specs.Prelude.{Option, None, Some, option_map}
use Prim.Native.Nat.{ℕ, zero, suc, ◌+◌, ◌-◌, ◌*◌, ◌≤◌, ◌<◌}
use native.Mathlib.Omega.{arith}
use native.Mathlib.Numerals.{add-one}
use native.Mathlib.Nat.{mul-le-mul_right}
use mathlib.Core.Path.{◌≡◌, refl, sym, ap, ap₂, ◌∙◌}
use mathlib.Core.List.{List, [], ◌∷◌, ◌++◌, map}
use lib.ListN.{length, take, drop, get_or, set, replicate, length-append, length-replicate, length-set}
use lib.Seq.{sets, take-append_seam, get_or-take, set-append_left}
use lib.Dec.{ltb, eqb}
use Rattle.records.specs.Pick.{pick}
use Rattle.rows.specs.Lists.{remove_at, insert_at, All, pad_to, place_of, find_by, insert_by, Rising, spot_at}
use Rattle.rows.specs.Rows.{rows_from, flat, itself, first_word, spot_in, Searched, moved, closed, opened}
use Rattle.rows.specs.Tables.{Table, rows_of, live, words_for, Held, Holds, Stands, Put}
use Rattle.rows.proofs.Keys.{place-le, not_found, insert-miss}
use Rattle.rows.proofs.Sets.{length_moved}
use Rattle.rows.proofs.Search.{row_at}
use Rattle.rows.proofs.Flat.{length-flat, flat_append, flat-set, flat-closed, flat-opened, rows-flat, length-remove_at, length-insert_at, pad-removed, pad-inserted}
use Rattle.rows.proofs.Promises.{held-length, rising-insert, rising-remove_at, rising-set}

-- what a layout owes: each record has its width, its key is its first word, and a blank is zeros that say the blank again
pub record Lawful {A : Type 0} (t : Table A) : Type 0 where
  pub wide : 0 < t.layout.width
  pub long : (x : A) → length (t.layout.words_of x) ≡ t.layout.width
  pub first : (x : A) → get_or (t.layout.words_of x) 0 0 ≡ t.key x
  pub zeros : t.layout.words_of t.blank ≡ replicate t.layout.width 0
  pub back : t.layout.record_of (t.layout.words_of t.blank) ≡ t.blank

module _ {A : Type 0} where
  pub length-pad : (room : ℕ) (b : A) (xs : List A) → length xs ≤ room → length (pad_to room b xs) ≡ room
  length-pad room b xs h = simp (length-append, length-replicate) (omega arith)

  pub all-remove_at : (P : A → Type 0) (i : ℕ) (xs : List A) → All P xs → All P (remove_at i xs)
  all-remove_at P i [] a = tt
  all-remove_at P zero (x ∷ xs) a = a.1
  all-remove_at P (suc i) (x ∷ xs) a = (a.0, all-remove_at P i xs a.1)

  pub all-insert_at : (P : A → Type 0) (i : ℕ) (u : A) (xs : List A) → P u → All P xs → All P (insert_at i u xs)
  all-insert_at P zero u xs p a = (p, a)
  all-insert_at P (suc i) u [] p a = (p, a)
  all-insert_at P (suc i) u (x ∷ xs) p a = (a.0, all-insert_at P i u xs p a.1)

  pub all_set : (P : A → Type 0) (i : ℕ) (u : A) (xs : List A) → P u → All P xs → All P (set xs i u)
  all_set P i u [] p a = tt
  all_set P zero u (x ∷ xs) p a = (p, a.1)
  all_set P (suc i) u (x ∷ xs) p a = (a.0, all_set P i u xs p a.1)

  -- records that are as they read
  map-all : (f : A → A) (xs : List A) → All (λ (x : A). f x ≡ x) xs → map f xs ≡ xs
  map-all f [] a = refl
  map-all f (x ∷ xs) a = ap₂ (λ (y : A) (l : List A). y ∷ l) a.0 (map-all f xs a.1)

  all_map : (f : A → A) (xs : List A) → map f xs ≡ xs → All (λ (x : A). f x ≡ x) xs
  all_map f [] e = tt
  all_map f (x ∷ xs) e =
      let h : f x ≡ x = cc in
      let r : map f xs ≡ xs = cc in
      (h, all_map f xs r)

  map-replicate : (f : A → A) (n : ℕ) (b : A) → f b ≡ b → map f (replicate n b) ≡ replicate n b
  map-replicate f zero b e = refl
  map-replicate f (suc n) b e = ap₂ (λ (y : A) (l : List A). y ∷ l) e (map-replicate f n b e)

  map-append : {B : Type 0} (f : A → B) (xs ys : List A) → map f (xs ++ ys) ≡ map f xs ++ map f ys
  map-append f [] ys = refl
  map-append f (x ∷ xs) ys = ap (λ (l : List _). f x ∷ l) (map-append f xs ys)

-- the key of a record is the first word of its row: a search finds the same
module _ {A : Type 0} (key : A → ℕ) (enc : A → List ℕ) (first : (x : A) → get_or (enc x) 0 0 ≡ key x) where
  find-map : (k : ℕ) (xs : List A) → find_by first_word k (map enc xs) ≡ find_by key k xs
  find-map k [] = refl
  find-map k (x ∷ xs) =
      ap₂ (λ (m : ℕ) (o : Option ℕ). pick (eqb m k) (Some 0) (option_map suc o)) (first x) (find-map k xs)

  place_map : (k : ℕ) (xs : List A) → place_of first_word k (map enc xs) ≡ place_of key k xs
  place_map k [] = refl
  place_map k (x ∷ xs) = ap₂ (λ (m : ℕ) (o : ℕ). pick (ltb m k) (suc o) 0) (first x) (place_map k xs)

  rising-map : (lo : ℕ) (xs : List A) → Rising key lo xs → Rising first_word lo (map enc xs)
  rising-map lo [] r = tt
  rising-map lo (x ∷ xs) r = rw (first x) (r.0, rising-map (suc (key x)) xs r.1)

-- what a load at a place reads
pub row_of : {A : Type 0} (t : Table A) (ws : List ℕ) (i : ℕ) → i < t.room
    → t.layout.record_of (take t.layout.width (drop (i * t.layout.width) ws)) ≡ get_or (rows_of t ws) i t.blank
unfolding rows_of
row_of t ws i h = sym (row_at t.layout.width t.layout.record_of t.room ws i t.blank h)

module _ {A : Type 0} {t : Table A} (l : Lawful t) where
  -- the record says itself again once it is written
  abbrev pub Exact : A → Type 0
  Exact x = t.layout.record_of (t.layout.words_of x) ≡ x

  rows-words_for : (xs : List A) → length xs ≤ t.room → All Exact xs → rows_of t (words_for t xs) ≡ pad_to t.room t.blank xs
  unfolding rows_of words_for
  rows-words_for xs h a =
      let zs : List A = pad_to t.room t.blank xs in
      let k : ℕ = t.layout.width in
      let n : length zs ≡ t.room = length-pad t.room t.blank xs h in
      let f : A → A = λ (x : A). t.layout.record_of (t.layout.words_of x) in
      let e : flat t.layout.words_of zs ≡ flat t.layout.words_of zs ++ [] = sym (append-nil _) in
      ap₂ (λ (m : ℕ) (ws : List ℕ). rows_from k t.layout.record_of m ws) (sym n) e
      ∙ rows-flat k t.layout.words_of l.long t.layout.record_of zs []
      ∙ map-append f xs (replicate (t.room - length xs) t.blank)
      ∙ ap₂ (λ (p q : List A). p ++ q) (map-all f xs a) (map-replicate f (t.room - length xs) t.blank l.back)
    where
      append-nil : (ws : List ℕ) → ws ++ [] ≡ ws
      append-nil [] = refl
      append-nil (x ∷ ws) = ap (λ (m : List ℕ). x ∷ m) (append-nil ws)

  -- the words of a list that rises, has room and says itself again hold that list
  pub holds_of : (ws : List ℕ) (n : ℕ) (xs : List A) → ws ≡ words_for t xs → n ≡ length xs → length xs ≤ t.room → Rising t.key 0 xs → All Exact xs
      → Holds t ws n xs
  holds_of ws n xs e m h r a =
      let is : live t ws n ≡ xs =
      ap₂ (λ (j : ℕ) (w : List ℕ). take j (rows_of t w)) m e ∙ ap (take (length xs)) (rows-words_for xs h a) ∙ take-append_seam xs _ in
      record {
        is = e;
        live-is = is;
        held = record { words = e ∙ ap (words_for t) (sym is); within = omega arith; rising = rw is r };
      }

  pub holds-fresh : (ws : List ℕ) → ws ≡ words_for t [] → Holds t ws 0 []
  holds-fresh ws e = holds_of ws 0 [] e refl (omega arith) tt tt

  module _ {ws : List ℕ} {n : ℕ} (h : Held t ws n) where
    abbrev xs : List A
    xs = live t ws n

    in_words : ws ≡ flat t.layout.words_of (pad_to t.room t.blank xs)
    unfolding words_for
    in_words = h.words

    -- the first n rows, read by anything
    rows-read : {B : Type 0} (dec : List ℕ → B) → rows_from t.layout.width dec n ws ≡ map (λ (x : A). dec (t.layout.words_of x)) xs
    rows-read dec =
        let enc = t.layout.words_of in
        ap₂ (λ (m : ℕ) (w : List ℕ). rows_from t.layout.width dec m w) (sym (held-length h))
        (in_words ∙ flat_append t.layout.width enc l.long xs (replicate (t.room - length xs) t.blank))
        ∙ rows-flat t.layout.width enc l.long dec xs (flat enc (replicate (t.room - length xs) t.blank))

    pub held-exact : All Exact (live t ws n)
    unfolding rows_of
    held-exact = all_map (λ (x : A). t.layout.record_of (t.layout.words_of x)) xs (sym (rows-read t.layout.record_of) ∙ front n t.room ws h.within)
      where
        front : (m r : ℕ) (w : List ℕ) → m ≤ r
            → rows_from t.layout.width t.layout.record_of m w ≡ take m (rows_from t.layout.width t.layout.record_of r w)
        front zero r w e = refl
        front (suc m) zero w e = absurd (omega arith)
        front (suc m) (suc r) w e =
            ap (λ (y : List A). t.layout.record_of (take t.layout.width w) ∷ y) (front m r (drop t.layout.width w) (omega arith))

    pub held-long : length ws ≡ t.room * t.layout.width
    held-long =
        let n : length xs ≤ t.room = omega (arith, held-length h, h.within) in
        ap length in_words ∙ length-flat t.layout.width t.layout.words_of l.long (pad_to t.room t.blank xs)
        ∙ ap (λ (m : ℕ). m * t.layout.width) (length-pad t.room t.blank xs n)

    -- a search of the words is one of the records
    pub held-searched : Searched t.layout.width n ws
    held-searched =
        record {
          wide = l.wide;
          there = omega (arith, held-long, mul-le-mul_right t.layout.width h.within);
          rising = rw (rows-read itself) (rising-map t.key t.layout.words_of l.first 0 xs h.rising);
        }

    pub held-spot : (k : ℕ) → spot_in k (rows_from t.layout.width itself n ws) ≡ spot_at (find_by t.key k xs) (place_of t.key k xs)
    held-spot k =
        ap (spot_in k) (rows-read itself)
        ∙ ap₂ spot_at (find-map t.key t.layout.words_of l.first k xs) (place_map t.key t.layout.words_of l.first k xs)

    -- ---- what a change of words makes of the list

    pub holds_same : Holds t ws n (live t ws n)
    holds_same = record { is = h.words; live-is = refl; held = h }

    -- row i is closed
    pub holds-removed : {ws' : List ℕ} (i : ℕ) → i < n → ws' ≡ closed t.layout.width n i ws → Holds t ws' (n - 1) (remove_at i (live t ws n))
    unfolding words_for
    holds-removed {ws'} i b e =
        let k : ℕ = t.layout.width in
        let zs : List A = pad_to t.room t.blank xs in
        let ln : length xs ≡ n = held-length h in
        let lx : length xs ≤ t.room = omega (arith, h.within) in
        let lz : length zs ≡ t.room = length-pad t.room t.blank xs lx in
        let bx : i < length xs = omega arith in
        let bz : length xs ≤ length zs = omega arith in
        let m : n - 1 ≡ length (remove_at i xs) = omega (arith, length-remove_at i xs bx) in
        holds_of ws' (n - 1) (remove_at i xs)
        (e ∙ ap₂ (λ (j : ℕ) (w : List ℕ). closed k j i w) (sym ln) in_words
        ∙ flat-closed k t.layout.words_of l.long (length xs) i t.blank zs l.zeros bx bz
        ∙ ap (flat t.layout.words_of) (pad-removed t.room t.blank xs i bx lx))
        m (omega (arith, h.within)) (rising-remove_at t.key 0 i xs h.rising) (all-remove_at Exact i xs held-exact)

    -- u is put in the place of the record at i, which has its key
    pub holds-put : {ws' : List ℕ} {i : ℕ} {u : A} → Stands t ws n i u → Put t ws i u ws' → Holds t ws' n (set (live t ws n) i u)
    unfolding words_for
    holds-put {ws'} {i} {u} s p =
        let b : i < n = s.there in
        let zs : List A = pad_to t.room t.blank xs in
        let ln : length xs ≡ n = held-length h in
        let lx : length xs ≤ t.room = omega (arith, h.within) in
        let lz : length zs ≡ t.room = length-pad t.room t.blank xs lx in
        let bx : i < length xs = omega arith in
        let bz : i < length zs = omega arith in
        let same : t.key u ≡ t.key (get_or xs i t.blank) = s.same ∙ ap t.key (sym (get_or-take n (rows_of t ws) i t.blank b)) in
        holds_of ws' n (set xs i u)
        (p.words ∙ ap (λ (w : List ℕ). sets w (i * t.layout.width) (t.layout.words_of u)) in_words
        ∙ flat-set t.layout.width t.layout.words_of l.long zs i u bz
        ∙ ap (flat t.layout.words_of) (set-append_left xs (replicate (t.room - length xs) t.blank) i u bx
        ∙ ap (λ (m : ℕ). set xs i u ++ replicate (t.room - m) t.blank) (sym (length-set xs i u))))
        (sym ln ∙ sym (length-set xs i u)) (omega (arith, length-set xs i u)) (rising-set t.key 0 i u xs t.blank same h.rising)
        (all_set Exact i u xs p.back held-exact)

    -- a place is opened where the key of u belongs, and u is put there
    pub holds_opened : {ws₁ ws' : List ℕ} {i : ℕ} {u : A} → n < t.room → find_by t.key (t.key u) (live t ws n) ≡ None
        → i ≡ place_of t.key (t.key u) (live t ws n) → ws₁ ≡ opened t.layout.width n i ws → Put t ws₁ i u ws'
        → Holds t ws' (n + 1) (insert_by t.key u (live t ws n))
    unfolding words_for
    holds_opened {ws₁} {ws'} {i} {u} r f q o p =
        let k : ℕ = t.layout.width in
        let enc = t.layout.words_of in
        let zs : List A = pad_to t.room t.blank xs in
        let ln : length xs ≡ n = held-length h in
        let lx : length xs ≤ t.room = omega arith in
        let lz : length zs ≡ t.room = length-pad t.room t.blank xs lx in
        let ix : i ≤ length xs = omega (arith, place-le t.key (t.key u) xs) in
        let rx : length xs < t.room = omega arith in
        let bz : length xs < length zs = omega arith in
        let zs₁ : List A = moved (suc i) i (length xs - i) zs in
        let l₁ : length zs₁ ≡ length zs = length_moved (suc i) i (length xs - i) zs in
        let iz : i < length zs₁ = omega arith in
        let y : insert_by t.key u xs ≡ insert_at i u xs =
        insert-miss t.key u xs u (not_found t.key 0 (t.key u) xs u h.rising f).lacks ∙ ap (λ (j : ℕ). insert_at j u xs) (sym q) in
        let ny : length (insert_at i u xs) ≡ suc n = length-insert_at i u xs ∙ ap suc ln in
        let w₁ : ws₁ ≡ flat enc zs₁ =
        o ∙ ap₂ (λ (j : ℕ) (w : List ℕ). opened k j i w) (sym ln) in_words ∙ flat-opened k enc l.long (length xs) i zs ix bz in
        rw y
        (holds_of ws' (n + 1) (insert_at i u xs)
        (p.words ∙ ap (λ (w : List ℕ). sets w (i * k) (enc u)) w₁ ∙ flat-set k enc l.long zs₁ i u iz
        ∙ ap (flat enc) (pad-inserted t.room t.blank xs i u ix rx))
        (add-one n ∙ sym ny) (omega arith)
        (rw y at (rising-insert t.key 0 u xs (omega arith) h.rising)) (all-insert_at Exact i u xs p.back held-exact))
