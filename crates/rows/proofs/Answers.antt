-- What find, insert and remove answer of a held table, as their code has it: one law for each way that they end. Over any kind of table whose layout
-- is lawful. Assumes nothing.
use Rattle.std.specs.Prelude.{Option, None, Some, Ok, Err}
use Prim.Native.Nat.{ℕ, suc, ◌+◌, ◌-◌, ◌*◌, ◌≤◌, ◌<◌}
use native.Mathlib.Nat.{mul-le-mul_right}
use native.Mathlib.Omega.{arith}
use native.Mathlib.Numerals.{add-one}
use mathlib.Core.Path.{◌≡◌, refl, sym, ap, ◌∙◌}
use mathlib.Core.Bool.{Bool, true, false}
use mathlib.Core.List.{List}
use lib.ListN.{length, set}
use lib.Dec.{leb}
use borrow.Author.Tests.{le-leb, lt-leb, leb-true, leb-false}
use Rattle.records.specs.Pick.{pick}
use Rattle.rows.specs.declared.Slot.{Slot}
use Rattle.rows.specs.declared.Slot.TheVariants.{Shut, Over, New}
use Rattle.rows.specs.Lists.{remove_at, place_of, find_by, insert_by, remove_by, spot_at}
use Rattle.rows.specs.Rows.{rows_from, itself, first_word, spot_in, place_of_spot, slot_of, slot_words, left_count, left_words, Searched, Slotted, Unslotted, opened}
use Rattle.rows.specs.Tables.{Table, live, Held, Holds, Stands, Entered, Put}
use Rattle.rows.proofs.Search.{search-le}
use Rattle.rows.proofs.Keys.{place-le, found, not_found, insert-hit, remove-hit, remove-miss}
use Rattle.rows.proofs.Promises.{length-insert-hit, length-insert-miss, held-length, hit-lt, hit-key}
use Rattle.rows.proofs.Held.{Lawful, held-long, held-spot, holds_same, holds-removed, holds-put, holds_opened}

pub taken-some : (o : Option ℕ) (i k : ℕ) → Ok i ≡ spot_at o k → o ≡ Some i
taken-some None i k e = let z : ◌≡◌ {A = ℕ} 0 1 = cc in absurd (omega arith)
taken-some (Some j) i k e = cc

pub free-none : (o : Option ℕ) (i k : ℕ) → Err i ≡ spot_at o k → (o ≡ None) × (i ≡ k)
free-none None i k e = (refl, cc)
free-none (Some j) i k e = let z : ◌≡◌ {A = ℕ} 0 1 = cc in absurd (omega arith)

-- the three slots, by what was found
pub over-some : (o : Option ℕ) (p room n i : ℕ) → Over i ≡ slot_of room n (spot_at o p) → o ≡ Some i
over-some None p room n i e = go (leb room n) e
  where
    go : (b : Bool) → Over i ≡ pick b Shut (New p) → None ≡ Some i
    go true e = let z : ◌≡◌ {A = ℕ} 0 1 = cc in absurd (omega arith)
    go false e = let z : ◌≡◌ {A = ℕ} 0 1 = cc in absurd (omega arith)
over-some (Some j) p room n i e = cc

pub new_none : (o : Option ℕ) (p room n i : ℕ) → New i ≡ slot_of room n (spot_at o p) → (o ≡ None) × ((i ≡ p) × (n < room))
new_none None p room n i e = go (leb room n) refl e
  where
    go : (b : Bool) → leb room n ≡ b → New i ≡ pick b Shut (New p) → (◌≡◌ {A = Option ℕ} None None) × ((i ≡ p) × (n < room))
    go true f e = let z : ◌≡◌ {A = ℕ} 0 1 = cc in absurd (omega arith)
    go false f e = (refl, (cc, leb-false room n f))
new_none (Some j) p room n i e = let z : ◌≡◌ {A = ℕ} 0 1 = cc in absurd (omega arith)

pub shut_none : (o : Option ℕ) (p room n : ℕ) → Shut ≡ slot_of room n (spot_at o p) → (o ≡ None) × (room ≤ n)
shut_none None p room n e = go (leb room n) refl e
  where
    go : (b : Bool) → leb room n ≡ b → Shut ≡ pick b Shut (New p) → (◌≡◌ {A = Option ℕ} None None) × (room ≤ n)
    go true f e = (refl, leb-true room n f)
    go false f e = let z : ◌≡◌ {A = ℕ} 0 1 = cc in absurd (omega arith)
shut_none (Some j) p room n e = let z : ◌≡◌ {A = ℕ} 0 1 = cc in absurd (omega arith)

place-of : (o : Option ℕ) (p : ℕ) → place_of_spot (spot_at o p) ≡ o
place-of None p = refl
place-of (Some i) p = refl

-- there is room for the row to be opened
pub opens : {width n room : ℕ} {ws : List ℕ} (s : Searched width n ws) (key i : ℕ) → Err i ≡ spot_in key (rows_from width itself n ws) → n < room
    → room * width ≤ length ws → (i ≤ n) × ((n + 1) * width ≤ length ws)
opens {width} {n} {room} {ws} s key i e h r =
    let rows : List (List ℕ) = rows_from width itself n ws in
    let b : n + 1 ≤ room = omega arith in
    (omega (arith, (free-none (find_by first_word key rows) i (place_of first_word key rows) e).1, search-le s key), omega (arith, mul-le-mul_right width b))

module _ {A : Type 0} {t : Table A} (l : Lawful t) {ws : List ℕ} {n : ℕ} (h : Held t ws n) where
  -- ---- remove, by the answer of find

  pub gone-hit : {ws' : List ℕ} (k i : ℕ) → find_by t.key k (live t ws n) ≡ Some i → Holds t ws' (n - 1) (remove_at i (live t ws n))
      → Holds t ws' (n - 1) (remove_by t.key k (live t ws n))
  gone-hit k i e r =
      let f = found t.key 0 k (live t ws n) i t.blank h.rising e in
      let q : remove_by t.key k (live t ws n) ≡ remove_at i (live t ws n) =
      remove-hit t.key k (live t ws n) t.blank f.1.there f.1.has ∙ ap (λ (j : ℕ). remove_at j (live t ws n)) (sym f.0) in
      rw q r

  pub gone-miss : (k : ℕ) → find_by t.key k (live t ws n) ≡ None → Holds t ws n (remove_by t.key k (live t ws n))
  gone-miss k e = rw (remove-miss t.key 0 k (live t ws n) t.blank h.rising (not_found t.key 0 k (live t ws n) t.blank h.rising e).lacks) (holds_same l h)

  -- ---- insert, by the answer of the search

  module _ (u : A) where
    -- a record with the key is there: u takes its place
    pub entered-over : {ws' : List ℕ} (i : ℕ) → find_by t.key (t.key u) (live t ws n) ≡ Some i → Put t ws i u ws' → Entered t ws n u ws' (Some n)
    entered-over i e p =
        let f = found t.key 0 (t.key u) (live t ws n) i u h.rising e in
        let s : Stands t ws n i u = record { there = hit-lt h (t.key u) i e; same = sym (hit-key h (t.key u) i e) } in
        let q : insert_by t.key u (live t ws n) ≡ set (live t ws n) i u =
        insert-hit t.key u (live t ws n) u f.1.there f.1.has ∙ ap (λ (j : ℕ). set (live t ws n) j u) (sym f.0) in
        let m : length (insert_by t.key u (live t ws n)) ≡ n = length-insert-hit t.key 0 u (live t ws n) i h.rising e ∙ held-length h in
        record { answer = rw (m, le-leb n t.room h.within); table = rw q (holds-put l h s p) }

    -- there is none, and no place is free
    pub entered-none : find_by t.key (t.key u) (live t ws n) ≡ None → t.room ≤ n → Entered t ws n u ws None
    entered-none e b =
        let m : length (insert_by t.key u (live t ws n)) ≡ suc n =
        length-insert-miss t.key 0 u (live t ws n) h.rising e ∙ ap suc (held-length h) in
        let c : t.room < suc n = omega arith in
        record { answer = rw (m, lt-leb (suc n) t.room c); table = refl }

    -- there is none, and a place is free
    pub entered-new : {ws₁ ws' : List ℕ} (i : ℕ) → find_by t.key (t.key u) (live t ws n) ≡ None → i ≡ place_of t.key (t.key u) (live t ws n)
        → n < t.room → ws₁ ≡ opened t.layout.width n i ws → Put t ws₁ i u ws' → Entered t ws n u ws' (Some (n + 1))
    entered-new i e q b o p =
        let m : length (insert_by t.key u (live t ws n)) ≡ n + 1 =
        length-insert-miss t.key 0 u (live t ws n) h.rising e ∙ ap suc (held-length h) ∙ sym (add-one n) in
        let c : n + 1 ≤ t.room = omega arith in
        record { answer = rw (m, le-leb (n + 1) t.room c); table = holds_opened l h b e q o p }

  -- ---- the same, of what the search of words answers

  pub sought : (k : ℕ) (r : Option ℕ) → r ≡ place_of_spot (spot_in k (rows_from t.layout.width itself n ws)) → r ≡ find_by t.key k (live t ws n)
  sought k r e = e ∙ ap place_of_spot (held-spot l h k) ∙ place-of (find_by t.key k (live t ws n)) (place_of t.key k (live t ws n))

  pub roomy : (n ≤ t.room) × (t.room * t.layout.width ≤ length ws)
  roomy = (h.within, omega (arith, held-long l h))

  pub left : {ws' : List ℕ} {r : ℕ} (k : ℕ) → Unslotted t.layout.width n k ws ws' r → Holds t ws' r (remove_by t.key k (live t ws n))
  left {ws'} {r} k u =
      go (find_by t.key k (live t ws n)) refl (u.answer ∙ ap (left_count n) (held-spot l h k)) (u.words ∙ ap (left_words t.layout.width n ws) (held-spot l h k))
    where
      go : (o : Option ℕ) → find_by t.key k (live t ws n) ≡ o → r ≡ left_count n (spot_at o (place_of t.key k (live t ws n)))
          → ws' ≡ left_words t.layout.width n ws (spot_at o (place_of t.key k (live t ws n))) → Holds t ws' r (remove_by t.key k (live t ws n))
      go None f a w = rw (a, w) (gone-miss k f)
      go (Some i) f a w = rw a (gone-hit k i f (holds-removed l h i (hit-lt h k i f) w))

  module _ (u : A) {ws₁ : List ℕ} {r : Slot} (s : Slotted t.layout.width t.room n (t.key u) ws ws₁ r) where
    slot : r ≡ slot_of t.room n (spot_at (find_by t.key (t.key u) (live t ws n)) (place_of t.key (t.key u) (live t ws n)))
    slot = s.answer ∙ ap (slot_of t.room n) (held-spot l h (t.key u))

    pub shut-entered : r ≡ Shut → Entered t ws n u ws₁ None
    shut-entered e =
        let f = shut_none _ _ t.room n (sym e ∙ slot) in
        let w : ws₁ ≡ ws = s.words ∙ ap (slot_words t.layout.width n ws) e in
        rw w (entered-none u f.0 f.1)

    pub over-lt : (i : ℕ) → r ≡ Over i → i < t.room
    over-lt i e = omega (arith, hit-lt h (t.key u) i (over-some _ _ t.room n i (sym e ∙ slot)), h.within)

    pub over-entered : {ws' : List ℕ} (i : ℕ) → r ≡ Over i → Put t ws₁ i u ws' → Entered t ws n u ws' (Some n)
    over-entered i e p =
        let w : ws₁ ≡ ws = s.words ∙ ap (slot_words t.layout.width n ws) e in
        entered-over u i (over-some _ _ t.room n i (sym e ∙ slot)) (rw w at p)

    pub new-lt : (i : ℕ) → r ≡ New i → i < t.room
    new-lt i e =
        let f = new_none (find_by t.key (t.key u) (live t ws n)) (place_of t.key (t.key u) (live t ws n)) t.room n i (sym e ∙ slot) in
        omega (arith, f.1.0, f.1.1, place-le t.key (t.key u) (live t ws n), held-length h)

    pub new-entered : {ws' : List ℕ} (i : ℕ) → r ≡ New i → Put t ws₁ i u ws' → Entered t ws n u ws' (Some (n + 1))
    new-entered i e p =
        let f = new_none _ _ t.room n i (sym e ∙ slot) in
        entered-new u i f.0 f.1.0 f.1.1 (s.words ∙ ap (slot_words t.layout.width n ws) e) p
