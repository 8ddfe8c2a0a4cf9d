-- What the table part promises, and all that the crates above may cite of it. Of lists in rising key: what inserting and removing keep, how many
-- they leave, and what is found after them. Of a held table: what its places hold, and when an insert is refused. Of the four moves: what each does to
-- order, length, look-up and counts, and how code that finds, stores and removes makes them. Over any kind of table. Assumes nothing.
use Rattle.std.specs.Prelude.{Option, None, Some, option_map}
use Prim.Native.Nat.{ℕ, zero, suc, ◌+◌, ◌-◌, ◌≤◌, ◌<◌}
use native.Mathlib.Numerals.{add-one}
use native.Mathlib.Nat.{zero-add, add-zero, add-suc, suc-add}
use native.Mathlib.Omega.{arith}
use mathlib.Core.Path.{◌≡◌, refl, sym, ap, ◌∙◌, subst⁻¹}
use mathlib.Core.Bool.{Bool, true, false}
use mathlib.Core.List.{List, [], ◌∷◌, ◌++◌, map}
use mathlib.Core.Logic.{⊎_elim}
use Rattle.records.specs.declared.Entry.{Entry}
use Rattle.records.specs.declared.Action.{Action}
use Rattle.records.specs.declared.Action.TheVariants.{HandedOff, Settled}
use lib.ListN.{length, take, drop, get_or, set, length-set, drop_of_length-le}
use lib.Seq.{drop-cons, get_or-take, length-take-le, drop-set-lt}
use lib.Dec.{leb, eqb}
use borrow.Author.Tests.{lt-ltb, le-ltb, eq-eqb, ne_eqb, lt-leb, leb-false}
use Rattle.records.specs.Pick.{pick, bit}
use Rattle.records.proofs.Cases.{lt-or-le, eq-or-ne, either, never}
use Rattle.rows.specs.Lists.{place_of, find_by, lookup, insert_by, remove_by, remove_at, fold, All, Rising, inserted_of}
use Rattle.rows.specs.Tables.{Table, rows_of, live, Held, Holds, Then, Entered}
use Rattle.rows.specs.Moves.{kept, told, each, at_first, first_of, first_at, place_from, placed, any_of, count, each_told, at_first_told, id_of, has_id, Same, settled_of}
use Rattle.rows.specs.declared.Turn.{Turn}
use Rattle.rows.specs.declared.Turn.TheVariants.{Keeps, HandsOff, Settles}
use Rattle.rows.proofs.Search.{length-rows}
use Rattle.rows.proofs.Flat.{length-insert_at, length-remove_at}
use Rattle.rows.proofs.Keys.{find_past, found, not_found, insert-hit, insert-miss, remove-hit}

module _ {A : Type 0} (key : A → ℕ) where
  -- ---- rising

  pub rising-lower : (lo lo' : ℕ) (xs : List A) → lo' ≤ lo → Rising key lo xs → Rising key lo' xs
  rising-lower lo lo' [] h r = tt
  rising-lower lo lo' (y ∷ ys) h r = (omega arith, r.1)

  pub rising-insert : (lo : ℕ) (x : A) (xs : List A) → lo ≤ key x → Rising key lo xs → Rising key lo (insert_by key x xs)
  rising-insert lo x [] h r = (h, tt)
  rising-insert lo x (y ∷ ys) h r =
      ⊎_elim
      (λ l. rw (lt-ltb (key y) (key x) l) (r.0, rising-insert (suc (key y)) x ys l r.1))
      (λ l.
      ⊎_elim
      (λ e. rw (le-ltb (key y) (key x) l, eq-eqb (key y) (key x) e) (h, rw e at r.1))
      (λ n. rw (le-ltb (key y) (key x) l, ne_eqb (key y) (key x) n) (h, (omega arith, r.1)))
      (eq-or-ne (key y) (key x)))
      (lt-or-le (key y) (key x))

  pub rising-remove : (lo k : ℕ) (xs : List A) → Rising key lo xs → Rising key lo (remove_by key k xs)
  rising-remove lo k [] r = tt
  rising-remove lo k (y ∷ ys) r =
      ⊎_elim
      (λ e. rw (eq-eqb (key y) k e) (rising-lower (suc (key y)) lo ys (omega arith) r.1))
      (λ n. rw (ne_eqb (key y) k n) (r.0, rising-remove (suc (key y)) k ys r.1))
      (eq-or-ne (key y) k)

  pub rising-remove_at : (lo i : ℕ) (xs : List A) → Rising key lo xs → Rising key lo (remove_at i xs)
  rising-remove_at lo i [] r = tt
  rising-remove_at lo zero (y ∷ ys) r = rising-lower (suc (key y)) lo ys (omega arith) r.1
  rising-remove_at lo (suc i) (y ∷ ys) r = (r.0, rising-remove_at (suc (key y)) i ys r.1)

  -- a record in the place of another with its key
  pub rising-set : (lo i : ℕ) (x : A) (xs : List A) (d : A) → key x ≡ key (get_or xs i d) → Rising key lo xs → Rising key lo (set xs i x)
  rising-set lo i x [] d e r = tt
  rising-set lo zero x (y ∷ ys) d e r = rw e r
  rising-set lo (suc i) x (y ∷ ys) d e r = (r.0, rising-set (suc (key y)) i x ys d e r.1)

  -- ---- how many

  pub length-insert-miss : (lo : ℕ) (x : A) (xs : List A) → Rising key lo xs → find_by key (key x) xs ≡ None
      → length (insert_by key x xs) ≡ suc (length xs)
  length-insert-miss lo x xs r e =
      ap length (insert-miss key x xs x (not_found key lo (key x) xs x r e).lacks) ∙ length-insert_at (place_of key (key x) xs) x xs

  pub length-insert-hit : (lo : ℕ) (x : A) (xs : List A) (i : ℕ) → Rising key lo xs → find_by key (key x) xs ≡ Some i
      → length (insert_by key x xs) ≡ length xs
  length-insert-hit lo x xs i r e =
      let h = (found key lo (key x) xs i x r e).1 in
      ap length (insert-hit key x xs x h.there h.has) ∙ length-set xs (place_of key (key x) xs) x

  pub length-remove-hit : (lo k : ℕ) (xs : List A) (i : ℕ) (d : A) → Rising key lo xs → find_by key k xs ≡ Some i
      → suc (length (remove_by key k xs)) ≡ length xs
  length-remove-hit lo k xs i d r e =
      let h = (found key lo k xs i d r e).1 in
      ap (λ (l : List A). suc (length l)) (remove-hit key k xs d h.there h.has) ∙ length-remove_at (place_of key k xs) xs h.there

  pub length-remove-le : (k : ℕ) (xs : List A) → length (remove_by key k xs) ≤ length xs
  length-remove-le k [] = omega arith
  length-remove-le k (y ∷ ys) =
      let ih : length (remove_by key k ys) ≤ length ys = length-remove-le k ys in
      ⊎_elim (λ e. rw (eq-eqb (key y) k e) (omega arith)) (λ n. rw (ne_eqb (key y) k n) (omega arith)) (eq-or-ne (key y) k)

  -- ---- what is looked up

  -- what is looked up is what stands where it is found
  pub lookup-find : (k : ℕ) (xs : List A) (d : A) → lookup key k xs ≡ option_map (λ (i : ℕ). get_or xs i d) (find_by key k xs)
  lookup-find k [] d = refl
  lookup-find k (y ∷ ys) d =
      ⊎_elim
      (λ e. rw (eq-eqb (key y) k e))
      (λ n. rw (ne_eqb (key y) k n) (lookup-find k ys d ∙ further (find_by key k ys)))
      (eq-or-ne (key y) k)
    where
      further : (o : Option ℕ) → option_map (λ (i : ℕ). get_or ys i d) o ≡ option_map (λ (i : ℕ). get_or (y ∷ ys) i d) (option_map suc o)
      further None = refl
      further (Some i) = refl

  -- the record put in is found at the place of its key, and a removed key is not found
  pub find-insert-same : (x : A) (xs : List A) → find_by key (key x) (insert_by key x xs) ≡ Some (place_of key (key x) xs)
  find-insert-same x [] = rw (eq-eqb (key x) (key x) refl)
  find-insert-same x (y ∷ ys) =
      ⊎_elim
      (λ l. rw (lt-ltb (key y) (key x) l, ne_eqb (key y) (key x) (λ q. omega arith)) (ap (option_map suc) (find-insert-same x ys)))
      (λ l.
      ⊎_elim
      (λ e. rw (le-ltb (key y) (key x) l, eq-eqb (key y) (key x) e, eq-eqb (key x) (key x) refl))
      (λ n. rw (le-ltb (key y) (key x) l, ne_eqb (key y) (key x) n, eq-eqb (key x) (key x) refl))
      (eq-or-ne (key y) (key x)))
      (lt-or-le (key y) (key x))

  pub find-remove-same : (lo k : ℕ) (xs : List A) → Rising key lo xs → find_by key k (remove_by key k xs) ≡ None
  find-remove-same lo k [] r = refl
  find-remove-same lo k (y ∷ ys) r =
      ⊎_elim
      (λ e. rw (eq-eqb (key y) k e) (find_past key (suc (key y)) k ys r.1 (omega arith)))
      (λ n. rw (ne_eqb (key y) k n, ne_eqb (key y) k n) (ap (option_map suc) (find-remove-same (suc (key y)) k ys r.1)))
      (eq-or-ne (key y) k)

  pub lookup-past : (lo k : ℕ) (xs : List A) → Rising key lo xs → k < lo → lookup key k xs ≡ None
  lookup-past lo k [] r h = refl
  lookup-past lo k (y ∷ ys) r h = rw (ne_eqb (key y) k (λ q. omega arith)) (lookup-past (suc (key y)) k ys r.1 (omega arith))

  -- the record put in is found under its key, and every other key finds what it found before
  pub lookup-insert-same : (x : A) (xs : List A) → lookup key (key x) (insert_by key x xs) ≡ Some x
  lookup-insert-same x [] = rw (eq-eqb (key x) (key x) refl)
  lookup-insert-same x (y ∷ ys) =
      ⊎_elim
      (λ l. rw (lt-ltb (key y) (key x) l, ne_eqb (key y) (key x) (λ q. omega arith)) (lookup-insert-same x ys))
      (λ l.
      ⊎_elim
      (λ e. rw (le-ltb (key y) (key x) l, eq-eqb (key y) (key x) e, eq-eqb (key x) (key x) refl))
      (λ n. rw (le-ltb (key y) (key x) l, ne_eqb (key y) (key x) n, eq-eqb (key x) (key x) refl))
      (eq-or-ne (key y) (key x)))
      (lt-or-le (key y) (key x))

  pub lookup-insert-other : (k : ℕ) (x : A) (xs : List A) → (key x ≡ k → ⊥) → lookup key k (insert_by key x xs) ≡ lookup key k xs
  lookup-insert-other k x [] n = rw (ne_eqb (key x) k n)
  lookup-insert-other k x (y ∷ ys) n =
      ⊎_elim
      (λ l. rw (lt-ltb (key y) (key x) l) (ap (pick (eqb (key y) k) (Some y)) (lookup-insert-other k x ys n)))
      (λ l.
      ⊎_elim
      (λ e. rw (le-ltb (key y) (key x) l, eq-eqb (key y) (key x) e, ne_eqb (key x) k n, ne_eqb (key y) k (λ q. n (sym e ∙ q))))
      (λ m. rw (le-ltb (key y) (key x) l, ne_eqb (key y) (key x) m, ne_eqb (key x) k n))
      (eq-or-ne (key y) (key x)))
      (lt-or-le (key y) (key x))

  -- a removed key finds nothing, and every other key finds what it found before
  pub lookup-remove-same : (lo k : ℕ) (xs : List A) → Rising key lo xs → lookup key k (remove_by key k xs) ≡ None
  lookup-remove-same lo k [] r = refl
  lookup-remove-same lo k (y ∷ ys) r =
      ⊎_elim
      (λ e. rw (eq-eqb (key y) k e) (lookup-past (suc (key y)) k ys r.1 (omega arith)))
      (λ n. rw (ne_eqb (key y) k n, ne_eqb (key y) k n) (lookup-remove-same (suc (key y)) k ys r.1))
      (eq-or-ne (key y) k)

  pub lookup-remove-other : (j k : ℕ) (xs : List A) → (j ≡ k → ⊥) → lookup key k (remove_by key j xs) ≡ lookup key k xs
  lookup-remove-other j k [] n = refl
  lookup-remove-other j k (y ∷ ys) n =
      ⊎_elim
      (λ e. rw (eq-eqb (key y) j e, ne_eqb (key y) k (λ q. n (sym e ∙ q))))
      (λ m. rw (ne_eqb (key y) j m) (ap (pick (eqb (key y) k) (Some y)) (lookup-remove-other j k ys n)))
      (eq-or-ne (key y) j)

-- ---- a held table

module _ {A : Type 0} where
  -- what is left of the live records from place i on
  pub live-cons : (rows : List A) (n i : ℕ) (d : A) → i < n → n ≤ length rows → drop i (take n rows) ≡ get_or rows i d ∷ drop (i + 1) (take n rows)
  live-cons rows n i d h k =
      let e : length (take n rows) ≡ n = length-take-le n rows k in
      let l : i < length (take n rows) = omega arith in
      drop-cons (take n rows) i d l ∙ rw (get_or-take n rows i d h, add-one)

  pub live-done : (rows : List A) (n i : ℕ) → n ≤ i → n ≤ length rows → drop i (take n rows) ≡ []
  live-done rows n i h k =
      let e : length (take n rows) ≡ n = length-take-le n rows k in
      let l : length (take n rows) ≤ i = omega arith in
      drop_of_length-le (take n rows) l

pub length-rows_of : {A : Type 0} (t : Table A) (ws : List ℕ) → length (rows_of t ws) ≡ t.room
unfolding rows_of
length-rows_of t ws = length-rows t.layout.width t.layout.record_of t.room ws

-- what find answers says what was found: it answers with the list's own option
pub here-some : (o : Option ℕ) (i : ℕ) → Some i ≡ o → o ≡ Some i
here-some o i e = sym e

pub nowhere-none : (o : Option ℕ) → None ≡ o → o ≡ None
nowhere-none o e = sym e

module _ {A : Type 0} {t : Table A} {ws : List ℕ} {n : ℕ} (h : Held t ws n) where
  pub held-length : length (live t ws n) ≡ n
  held-length = length-take-le n (rows_of t ws) (omega (arith, length-rows_of t ws, h.within))

  -- a live place holds its record of the list
  pub held_at : (i : ℕ) (d : A) → i < n → get_or (live t ws n) i d ≡ get_or (rows_of t ws) i d
  held_at i d l = get_or-take n (rows_of t ws) i d l

  -- what is found is live, has the key, and is what is looked up
  pub hit-lt : (k i : ℕ) → find_by t.key k (live t ws n) ≡ Some i → i < n
  hit-lt k i e =
      let f = found t.key 0 k (live t ws n) i t.blank h.rising e in
      omega (arith, f.0, f.1.there, held-length)

  pub hit-key : (k i : ℕ) → find_by t.key k (live t ws n) ≡ Some i → t.key (get_or (rows_of t ws) i t.blank) ≡ k
  hit-key k i e =
      let f = found t.key 0 k (live t ws n) i t.blank h.rising e in
      rw (← get_or-take n (rows_of t ws) i t.blank (hit-lt k i e), f.0) f.1.has

  pub hit-lookup : (k i : ℕ) → find_by t.key k (live t ws n) ≡ Some i → lookup t.key k (live t ws n) ≡ Some (get_or (rows_of t ws) i t.blank)
  hit-lookup k i e =
      lookup-find t.key k (live t ws n) t.blank ∙ ap (option_map (λ (j : ℕ). get_or (live t ws n) j t.blank)) e
      ∙ ap Some (held_at i t.blank (hit-lt k i e))

  pub miss-lookup : (k : ℕ) → find_by t.key k (live t ws n) ≡ None → lookup t.key k (live t ws n) ≡ None
  miss-lookup k e = lookup-find t.key k (live t ws n) t.blank ∙ ap (option_map (λ (j : ℕ). get_or (live t ws n) j t.blank)) e

  -- an insert is refused exactly when no record has the key and every place is taken
  pub full-when : (u : A) → find_by t.key (t.key u) (live t ws n) ≡ None → n ≡ t.room → inserted_of t.room (length (insert_by t.key u (live t ws n))) ≡ None
  full-when u e m =
      let l : length (insert_by t.key u (live t ws n)) ≡ suc n = length-insert-miss t.key 0 u (live t ws n) h.rising e ∙ ap suc held-length in
      rw (l, lt-leb (suc n) t.room (omega arith))

  pub full-means : (u : A) → inserted_of t.room (length (insert_by t.key u (live t ws n))) ≡ None
      → (find_by t.key (t.key u) (live t ws n) ≡ None) × (n ≡ t.room)
  full-means u r = go (find_by t.key (t.key u) (live t ws n)) refl
    where
      shut : (m : ℕ) → inserted_of t.room m ≡ None → t.room < m
      shut m e = cases (leb m t.room) refl e
        where
          cases : (b : Bool) → leb m t.room ≡ b → pick b (Some m) None ≡ None → t.room < m
          cases true f e = let z : ◌≡◌ {A = ℕ} 0 1 = cc in absurd (omega arith)
          cases false f e = leb-false m t.room f

      go : (o : Option ℕ) → find_by t.key (t.key u) (live t ws n) ≡ o → (find_by t.key (t.key u) (live t ws n) ≡ None) × (n ≡ t.room)
      go None f =
          let l : length (insert_by t.key u (live t ws n)) ≡ suc n = length-insert-miss t.key 0 u (live t ws n) h.rising f ∙ ap suc held-length in
          let s = shut (length (insert_by t.key u (live t ws n))) r in
          (f, omega (arith, h.within))
      go (Some i) f =
          let l : length (insert_by t.key u (live t ws n)) ≡ n = length-insert-hit t.key 0 u (live t ws n) i h.rising f ∙ held-length in
          let s = shut (length (insert_by t.key u (live t ws n))) r in
          absurd (omega (arith, h.within))

-- ---- the moves: counts

module _ {A : Type 0} where
  pub count-append : (p : A → Bool) (xs ys : List A) → count p (xs ++ ys) ≡ count p xs + count p ys
  count-append p [] ys = omega arith
  count-append p (x ∷ xs) ys = let h : count p (xs ++ ys) ≡ count p xs + count p ys = count-append p xs ys in omega arith

pub count_map : {A B : Type 0} (p : B → Bool) (f : A → B) (xs : List A) → count p (map f xs) ≡ count (λ (x : A). p (f x)) xs
count_map p f [] = refl
count_map p f (x ∷ xs) = ap (λ (n : ℕ). bit (p (f x)) + n) (count_map p f xs)

pub settled-append : (p : Entry → Bool) (xs ys : List Action) → count p (settled_of (xs ++ ys)) ≡ count p (settled_of xs) + count p (settled_of ys)
settled-append p [] ys = omega arith
settled-append p (HandedOff i w ∷ xs) ys = settled-append p xs ys
settled-append p (Settled e v h ∷ xs) ys =
    let ih : count p (settled_of (xs ++ ys)) ≡ count p (settled_of xs) + count p (settled_of ys) = settled-append p xs ys in omega arith

abbrev is_some : {A : Type 0} → Option A → Bool
is_some None = false
is_some (Some x) = true

stays-or : {A : Type 0} (o : Option A) → pick (is_some o) o None ≡ o
stays-or None = refl
stays-or (Some y) = refl

module _ {A : Type 0} (entry : A → Entry) where
  module _ (p : Entry → Bool) where
    -- how many entries of the list have the test
    abbrev pub entries : List A → ℕ
    entries xs = count (λ (y : A). p (entry y)) xs

    turn-count : (x : A) (t : Turn A) → Same entry x t → bit (p (entry x)) ≡ entries (kept t) + count p (settled_of (told (entry x) t))
    turn-count x (Keeps y) s = let e : bit (p (entry y)) ≡ bit (p (entry x)) = ap (λ (z : Entry). bit (p z)) s in omega arith
    turn-count x (HandsOff y) s = let e : bit (p (entry y)) ≡ bit (p (entry x)) = ap (λ (z : Entry). bit (p z)) s in omega arith
    turn-count x (Settles true v h) s = omega arith
    turn-count x (Settles false v h) s = omega arith

    -- the entries before are those that stay and those that are settled
    pub each-count : (f : A → Turn A) → ((x : A) → Same entry x (f x)) → (xs : List A) → entries xs ≡ entries (each f xs) + count p (settled_of (each_told entry f xs))
    each-count f s [] = omega arith
    each-count f s (x ∷ xs) =
        omega (
          arith,
          each-count f s xs,
          turn-count x (f x) (s x),
          count-append (λ (y : A). p (entry y)) (kept (f x)) (each f xs),
          settled-append p (told (entry x) (f x)) (each_told entry f xs),
        )

    pub first_count : (q : A → Bool) (f : A → Turn A) → ((x : A) → Same entry x (f x)) → (xs : List A)
        → entries xs ≡ entries (at_first q f xs) + count p (settled_of (at_first_told entry q f xs))
    first_count q f s [] = omega arith
    first_count q f s (x ∷ xs) = go (q x) (first_count q f s xs)
      where
        go : (b : Bool) → entries xs ≡ entries (at_first q f xs) + count p (settled_of (at_first_told entry q f xs))
            → bit (p (entry x)) + entries xs
            ≡ entries (pick b (kept (f x) ++ xs) (x ∷ at_first q f xs)) + count p (settled_of (pick b (told (entry x) (f x)) (at_first_told entry q f xs)))
        go true ih = omega (arith, turn-count x (f x) (s x), count-append (λ (y : A). p (entry y)) (kept (f x)) xs)
        go false ih = omega arith

    -- where no record has the id yet, there is one entry more
    pub insert-count : (x : A) (xs : List A) → count (has_id entry (id_of entry x)) xs ≡ 0 → entries (insert_by (id_of entry) x xs) ≡ bit (p (entry x)) + entries xs
    insert-count x [] h = refl
    insert-count x (y ∷ ys) h =
        let none_left : count (has_id entry (id_of entry x)) ys ≡ 0 = omega arith in
        let ih : entries (insert_by (id_of entry) x ys) ≡ bit (p (entry x)) + entries ys = insert-count x ys none_left in
        ⊎_elim
        (λ e. absurd (let z : bit (eqb (id_of entry y) (id_of entry x)) ≡ 1 = ap bit (eq-eqb (id_of entry y) (id_of entry x) e) in omega arith))
        (λ (n : id_of entry y ≡ id_of entry x → ⊥).
        ⊎_elim
        (λ l. rw (lt-ltb (id_of entry y) (id_of entry x) l) (omega arith))
        (λ l. rw (le-ltb (id_of entry y) (id_of entry x) l, ne_eqb (id_of entry y) (id_of entry x) n) (omega arith))
        (lt-or-le (id_of entry y) (id_of entry x)))
        (eq-or-ne (id_of entry y) (id_of entry x))

  -- ---- order

  turn-rising : (lo : ℕ) (x : A) (xs : List A) (t : Turn A) → Same entry x t → lo ≤ id_of entry x → Rising (id_of entry) (suc (id_of entry x)) xs
      → Rising (id_of entry) lo (kept t ++ xs)
  turn-rising lo x xs (Keeps y) s h r = subst⁻¹ (λ (e : Entry). (lo ≤ e.id) × Rising (id_of entry) (suc e.id) xs) s (h, r)
  turn-rising lo x xs (HandsOff y) s h r = subst⁻¹ (λ (e : Entry). (lo ≤ e.id) × Rising (id_of entry) (suc e.id) xs) s (h, r)
  turn-rising lo x xs (Settles again v w) s h r = rising-lower (id_of entry) (suc (id_of entry x)) lo xs (omega arith) r

  pub each-rising : (f : A → Turn A) → ((x : A) → Same entry x (f x)) → (lo : ℕ) (xs : List A) → Rising (id_of entry) lo xs → Rising (id_of entry) lo (each f xs)
  each-rising f s lo [] r = tt
  each-rising f s lo (x ∷ xs) r = turn-rising lo x (each f xs) (f x) (s x) r.0 (each-rising f s (suc (id_of entry x)) xs r.1)

  pub first-rising : (q : A → Bool) (f : A → Turn A) → ((x : A) → Same entry x (f x)) → (lo : ℕ) (xs : List A) → Rising (id_of entry) lo xs
      → Rising (id_of entry) lo (at_first q f xs)
  first-rising q f s lo [] r = tt
  first-rising q f s lo (x ∷ xs) r =
      either (Rising (id_of entry) lo) (q x) (turn-rising lo x xs (f x) (s x) r.0 r.1) (r.0, first-rising q f s (suc (id_of entry x)) xs r.1)

  -- ---- look-up

  -- what a turn leaves under the id
  abbrev pub stays : Turn A → Option A
  stays (Keeps y) = Some y
  stays (HandsOff y) = Some y
  stays (Settles again v h) = None

  abbrev pub after : (A → Turn A) → Option A → Option A
  after f None = None
  after f (Some x) = stays (f x)

  turn-lookup : (k : ℕ) (x : A) (xs : List A) (t : Turn A) → Same entry x t
      → lookup (id_of entry) k (kept t ++ xs) ≡ pick (eqb (id_of entry x) k) (pick (is_some (stays t)) (stays t) (lookup (id_of entry) k xs)) (lookup (id_of entry) k xs)
  turn-lookup k x xs (Keeps y) s = ap (λ (e : Entry). pick (eqb e.id k) (Some y) (lookup (id_of entry) k xs)) s
  turn-lookup k x xs (HandsOff y) s = ap (λ (e : Entry). pick (eqb e.id k) (Some y) (lookup (id_of entry) k xs)) s
  turn-lookup k x xs (Settles again v h) s = same (eqb (id_of entry x) k)
    where
      same : (b : Bool) → lookup (id_of entry) k xs ≡ pick b (lookup (id_of entry) k xs) (lookup (id_of entry) k xs)
      same true = refl
      same false = refl

  -- under each id stands what the turn of its record leaves
  pub lookup-each : (f : A → Turn A) → ((x : A) → Same entry x (f x)) → (lo k : ℕ) (xs : List A) → Rising (id_of entry) lo xs
      → lookup (id_of entry) k (each f xs) ≡ after f (lookup (id_of entry) k xs)
  lookup-each f s lo k [] r = refl
  lookup-each f s lo k (x ∷ xs) r =
      ⊎_elim
      (λ e.
      let past : lookup (id_of entry) k (each f xs) ≡ None =
      lookup-past (id_of entry) (suc (id_of entry x)) k (each f xs) (each-rising f s (suc (id_of entry x)) xs r.1) (omega arith) in
      turn-lookup k x (each f xs) (f x) (s x) ∙ rw (eq-eqb (id_of entry x) k e, past) (stays-or (stays (f x))))
      (λ n. turn-lookup k x (each f xs) (f x) (s x) ∙ rw (ne_eqb (id_of entry x) k n) (lookup-each f s (suc (id_of entry x)) k xs r.1))
      (eq-or-ne (id_of entry x) k)

  -- a turn of the record with one id leaves every other id as it was
  pub lookup-first-other : (i k : ℕ) (f : A → Turn A) → ((x : A) → Same entry x (f x)) → (i ≡ k → ⊥) → (xs : List A)
      → lookup (id_of entry) k (at_first (has_id entry i) f xs) ≡ lookup (id_of entry) k xs
  lookup-first-other i k f s n [] = refl
  lookup-first-other i k f s n (x ∷ xs) =
      ⊎_elim
      (λ e.
      let m : id_of entry x ≡ k → ⊥ = λ q. n (sym e ∙ q) in
      rw (eq-eqb (id_of entry x) i e) (turn-lookup k x xs (f x) (s x) ∙ rw (ne_eqb (id_of entry x) k m)))
      (λ m.
      rw (ne_eqb (id_of entry x) i m)
      (ap (pick (eqb (id_of entry x) k) (Some x)) (lookup-first-other i k f s n xs)))
      (eq-or-ne (id_of entry x) i)

  pub lookup-first-same : (i : ℕ) (f : A → Turn A) → ((x : A) → Same entry x (f x)) → (lo : ℕ) (xs : List A) → Rising (id_of entry) lo xs
      → lookup (id_of entry) i (at_first (has_id entry i) f xs) ≡ after f (lookup (id_of entry) i xs)
  lookup-first-same i f s lo [] r = refl
  lookup-first-same i f s lo (x ∷ xs) r =
      ⊎_elim
      (λ e.
      let past : lookup (id_of entry) i xs ≡ None = lookup-past (id_of entry) (suc (id_of entry x)) i xs r.1 (omega arith) in
      rw (eq-eqb (id_of entry x) i e) (turn-lookup i x xs (f x) (s x) ∙ rw (eq-eqb (id_of entry x) i e, past) (stays-or (stays (f x)))))
      (λ m. rw (ne_eqb (id_of entry x) i m, ne_eqb (id_of entry x) i m) (lookup-first-same i f s (suc (id_of entry x)) xs r.1))
      (eq-or-ne (id_of entry x) i)

  -- the first with any test: its own id has what its turn leaves, every other id what it had
  pub lookup-turned : (q : A → Bool) (f : A → Turn A) → ((x : A) → Same entry x (f x)) → (lo k : ℕ) (xs : List A) (x : A) → Rising (id_of entry) lo xs → first_of q xs ≡ Some x
      → lookup (id_of entry) k (at_first q f xs) ≡ pick (eqb (id_of entry x) k) (stays (f x)) (lookup (id_of entry) k xs)
  lookup-turned q f s lo k [] x r e = let z : ◌≡◌ {A = ℕ} 0 1 = cc in absurd (omega arith)
  lookup-turned q f s lo k (y ∷ ys) x r e = go (q y) e (lookup-turned q f s (suc (id_of entry y)) k ys x r.1)
    where
      found-past : (zs : List A) (lo' : ℕ) → Rising (id_of entry) lo' zs → first_of q zs ≡ Some x → lo' ≤ id_of entry x
      found-past [] lo' t f = let z : ◌≡◌ {A = ℕ} 0 1 = cc in absurd (omega arith)
      found-past (z ∷ zs) lo' t f = cases (q z) f (found-past zs (suc (id_of entry z)) t.1)
        where
          cases : (b : Bool) → pick b (Some z) (first_of q zs) ≡ Some x → (first_of q zs ≡ Some x → suc (id_of entry z) ≤ id_of entry x) → lo' ≤ id_of entry x
          cases true g ih = let i : z ≡ x = cc in rw (← i) t.0
          cases false g ih = let l = ih g in omega (arith, t.0)

      go : (b : Bool) → pick b (Some y) (first_of q ys) ≡ Some x
          → (first_of q ys ≡ Some x → lookup (id_of entry) k (at_first q f ys) ≡ pick (eqb (id_of entry x) k) (stays (f x)) (lookup (id_of entry) k ys))
          → lookup (id_of entry) k (pick b (kept (f y) ++ ys) (y ∷ at_first q f ys)) ≡ pick (eqb (id_of entry x) k) (stays (f x)) (pick (eqb (id_of entry y) k) (Some y) (lookup (id_of entry) k ys))
      go true g ih =
          let i : y ≡ x = cc in
          rw (← i)
          (⊎_elim
          (λ e.
          let past : lookup (id_of entry) k ys ≡ None = lookup-past (id_of entry) (suc (id_of entry y)) k ys r.1 (omega arith) in
          turn-lookup k y ys (f y) (s y) ∙ rw (eq-eqb (id_of entry y) k e, past) (stays-or (stays (f y))))
          (λ n. turn-lookup k y ys (f y) (s y) ∙ rw (ne_eqb (id_of entry y) k n))
          (eq-or-ne (id_of entry y) k))
      go false g ih =
          let l : suc (id_of entry y) ≤ id_of entry x = found-past ys (suc (id_of entry y)) r.1 g in
          ⊎_elim
          (λ e. let n : id_of entry x ≡ k → ⊥ = λ q. omega arith in rw (eq-eqb (id_of entry y) k e, ne_eqb (id_of entry x) k n))
          (λ n. rw (ne_eqb (id_of entry y) k n) (ih g))
          (eq-or-ne (id_of entry y) k)

-- ---- the first with a test is the oldest

module _ {A : Type 0} (key : A → ℕ) (q : A → Bool) where
  -- what is found has the test
  pub first-has : (xs : List A) (x : A) → first_of q xs ≡ Some x → q x ≡ true
  first-has [] x e = let z : ◌≡◌ {A = ℕ} 0 1 = cc in absurd (omega arith)
  first-has (y ∷ ys) x e = go (q y) refl e (first-has ys x)
    where
      go : (b : Bool) → q y ≡ b → pick b (Some y) (first_of q ys) ≡ Some x → (first_of q ys ≡ Some x → q x ≡ true) → q x ≡ true
      go true h f ih = let e : y ≡ x = cc in rw e at h
      go false h f ih = ih f

  -- and no record with the test has a lower key
  pub first-oldest : (lo : ℕ) (xs : List A) (x : A) → Rising key lo xs → first_of q xs ≡ Some x → All (λ (y : A). q y ≡ true → key x ≤ key y) xs
  first-oldest lo [] x r e = tt
  first-oldest lo (y ∷ ys) x r e = go (q y) refl e (first-oldest (suc (key y)) ys x r.1)
    where
      later : (b : ℕ) (zs : List A) → Rising key b zs → key x ≤ b → All (λ (z : A). q z ≡ true → key x ≤ key z) zs
      later b [] t l = tt
      later b (z ∷ zs) t l = ((λ h. omega (arith, t.0)), later (suc (key z)) zs t.1 (omega (arith, t.0)))

      go : (b : Bool) → q y ≡ b → pick b (Some y) (first_of q ys) ≡ Some x → (first_of q ys ≡ Some x → All (λ (z : A). q z ≡ true → key x ≤ key z) ys)
          → (q y ≡ true → key x ≤ key y) × All (λ (z : A). q z ≡ true → key x ≤ key z) ys
      go true h f ih =
          let i : y ≡ x = cc in
          let k : key x ≡ key y = ap key (sym i) in
          ((λ g. omega arith), later (suc (key y)) ys r.1 (omega arith))
      go false h f ih = ((λ g. never (sym h ∙ g)), ih f)

-- ---- length

module _ {A : Type 0} where
  kept-length : (t : Turn A) (xs : List A) → length (kept t ++ xs) ≤ suc (length xs)
  kept-length (Keeps y) xs = omega arith
  kept-length (HandsOff y) xs = omega arith
  kept-length (Settles again v h) xs = omega arith

  pub each-length : (f : A → Turn A) (xs : List A) → length (each f xs) ≤ length xs
  each-length f [] = omega arith
  each-length f (x ∷ xs) = omega (arith, each-length f xs, kept-length (f x) (each f xs))

  pub first-length : (q : A → Bool) (f : A → Turn A) (xs : List A) → length (at_first q f xs) ≤ length xs
  first-length q f [] = omega arith
  first-length q f (x ∷ xs) =
      let ih : length (at_first q f xs) ≤ length xs = first-length q f xs in
      either (λ (l : List A). length l ≤ suc (length xs)) (q x) (kept-length (f x) xs) (omega arith)

  -- ---- how code makes the move at the first: it finds the place, and stores or removes there

  pub record First (q : A → Bool) (f : A → Turn A) (d : A) (xs : List A) (i : ℕ) : Type 0 where
    pub there : i < length xs
    pub has : q (get_or xs i d) ≡ true
    pub is : first_of q xs ≡ Some (get_or xs i d)
    pub move : at_first q f xs ≡ placed (f (get_or xs i d)) i xs
    pub any : any_of q xs ≡ true

  pub first_found : (q : A → Bool) (f : A → Turn A) (d : A) (xs : List A) (i : ℕ) → first_at q xs ≡ Some i → First q f d xs i
  first_found q f d [] i e = let z : ◌≡◌ {A = ℕ} 0 1 = cc in absurd (omega arith)
  first_found q f d (x ∷ xs) i e = go (q x) refl e (first_found q f d xs)
    where
      here : (t : Turn A) → kept t ++ xs ≡ placed t 0 (x ∷ xs)
      here (Keeps y) = refl
      here (HandsOff y) = refl
      here (Settles again v h) = refl

      further : (t : Turn A) (j : ℕ) → x ∷ placed t j xs ≡ placed t (suc j) (x ∷ xs)
      further (Keeps y) j = refl
      further (HandsOff y) j = refl
      further (Settles again v h) j = refl

      step : (b : Bool) → q x ≡ b → b ≡ false → (o : Option ℕ) → first_at q xs ≡ o → option_map suc o ≡ Some i
          → ((j : ℕ) → first_at q xs ≡ Some j → First q f d xs j) → First q f d (x ∷ xs) i
      step b eq nb None fo e r = let z : ◌≡◌ {A = ℕ} 0 1 = cc in absurd (omega arith)
      step b eq nb (Some j) fo e r =
          let p = r j fo in
          let k : suc j ≡ i = cc in
          let no : q x ≡ false = eq ∙ nb in
          rw (← k)
          (record {
            there = omega (arith, p.there);
            has = p.has;
            is = rw no p.is;
            move = rw no (ap (λ (l : List A). x ∷ l) p.move ∙ further (f (get_or xs j d)) j);
            any = rw no p.any;
          })

      go : (b : Bool) → q x ≡ b → pick b (Some 0) (option_map suc (first_at q xs)) ≡ Some i → ((j : ℕ) → first_at q xs ≡ Some j → First q f d xs j) → First q f d (x ∷ xs) i
      go true eq e r =
          let k : 0 ≡ i = cc in
          rw (← k) (record { there = omega arith; has = eq; is = rw eq; move = rw eq (here (f x)); any = rw eq })
      go false eq e r = step false eq refl (first_at q xs) refl e r

  pub record Missed (q : A → Bool) (f : A → Turn A) (xs : List A) : Type 0 where
    pub is : first_of q xs ≡ None
    pub move : at_first q f xs ≡ xs
    pub any : any_of q xs ≡ false

  pub first-missed : (q : A → Bool) (f : A → Turn A) (xs : List A) → first_at q xs ≡ None → Missed q f xs
  first-missed q f [] e = record { is = refl; move = refl; any = refl }
  first-missed q f (x ∷ xs) e = go (q x) refl e (first-missed q f xs)
    where
      bare : (o : Option ℕ) → option_map suc o ≡ None → o ≡ None
      bare None e = refl
      bare (Some j) e = let z : ◌≡◌ {A = ℕ} 0 1 = cc in absurd (omega arith)

      go : (b : Bool) → q x ≡ b → pick b (Some 0) (option_map suc (first_at q xs)) ≡ None → (first_at q xs ≡ None → Missed q f xs) → Missed q f (x ∷ xs)
      go true eq e r = let z : ◌≡◌ {A = ℕ} 0 1 = cc in absurd (omega arith)
      go false eq e r =
          let p = r (bare (first_at q xs) e) in
          record { is = rw eq p.is; move = rw eq (ap (λ (l : List A). x ∷ l) p.move); any = rw eq p.any }

  -- the turn at the place is all that is told
  pub told-found : (entry : A → Entry) (q : A → Bool) (f : A → Turn A) (xs : List A) (x : A) → first_of q xs ≡ Some x → at_first_told entry q f xs ≡ told (entry x) (f x)
  told-found entry q f [] x e = let z : ◌≡◌ {A = ℕ} 0 1 = cc in absurd (omega arith)
  told-found entry q f (y ∷ ys) x e = go (q y) e (told-found entry q f ys x)
    where
      go : (b : Bool) → pick b (Some y) (first_of q ys) ≡ Some x → (first_of q ys ≡ Some x → at_first_told entry q f ys ≡ told (entry x) (f x))
          → pick b (told (entry y) (f y)) (at_first_told entry q f ys) ≡ told (entry x) (f x)
      go true e r = let z : y ≡ x = cc in rw z
      go false e r = r e

  pub told-missed : (entry : A → Entry) (q : A → Bool) (f : A → Turn A) (xs : List A) → first_of q xs ≡ None → at_first_told entry q f xs ≡ []
  told-missed entry q f [] e = refl
  told-missed entry q f (y ∷ ys) e = go (q y) e (told-missed entry q f ys)
    where
      go : (b : Bool) → pick b (Some y) (first_of q ys) ≡ None → (first_of q ys ≡ None → at_first_told entry q f ys ≡ []) → pick b (told (entry y) (f y)) (at_first_told entry q f ys) ≡ []
      go true e r = let z : ◌≡◌ {A = ℕ} 0 1 = cc in absurd (omega arith)
      go false e r = r e

  -- finding by key is finding the first with that key
  pub find_first : (key : A → ℕ) (k : ℕ) (xs : List A) → find_by key k xs ≡ first_at (λ (x : A). eqb (key x) k) xs
  find_first key k [] = refl
  find_first key k (x ∷ xs) = ap (λ (o : Option ℕ). pick (eqb (key x) k) (Some 0) (option_map suc o)) (find_first key k xs)

  -- ---- how code makes the move of each: place by place, storing or removing

  -- the records before place i as they are, and each of the others after its turn
  abbrev pub each_from : (A → Turn A) → ℕ → List A → List A
  each_from f zero xs = each f xs
  each_from f (suc i) [] = []
  each_from f (suc i) (x ∷ xs) = x ∷ each_from f i xs

  -- what is still to be told from place i on
  abbrev pub told_from : (A → Entry) → (A → Turn A) → ℕ → List A → List Action
  told_from entry f i xs = each_told entry f (drop i xs)

  stay-turn : (f : A → Turn A) (y : A) (i : ℕ) (xs : List A) (d : A) → i < length xs → kept (f (get_or xs i d)) ≡ y ∷ [] → each_from f (suc i) (set xs i y) ≡ each_from f i xs
  stay-turn f y i [] d h e = absurd (omega arith)
  stay-turn f y zero (x ∷ xs) d h e = ap (λ (l : List A). l ++ each f xs) (sym e)
  stay-turn f y (suc i) (x ∷ xs) d h e = ap (λ (l : List A). x ∷ l) (stay-turn f y i xs d (omega arith) e)

  -- a record that stays is stored, and the next place has its turn
  pub each-stays : (f : A → Turn A) (y : A) (i : ℕ) (xs : List A) (d : A) → i < length xs → kept (f (get_or xs i d)) ≡ y ∷ [] → each_from f (i + 1) (set xs i y) ≡ each_from f i xs
  each-stays f y i xs d h e = ap (λ (j : ℕ). each_from f j (set xs i y)) (add-one i) ∙ stay-turn f y i xs d h e

  -- a settled record is taken out, and the same place has its turn
  pub each_goes : (f : A → Turn A) (i : ℕ) (xs : List A) (d : A) → i < length xs → kept (f (get_or xs i d)) ≡ [] → each_from f i (remove_at i xs) ≡ each_from f i xs
  each_goes f i [] d h e = absurd (omega arith)
  each_goes f zero (x ∷ xs) d h e = ap (λ (l : List A). l ++ each f xs) (sym e)
  each_goes f (suc i) (x ∷ xs) d h e = ap (λ (l : List A). x ∷ l) (each_goes f i xs d (omega arith) e)

  pub each-end : (f : A → Turn A) (i : ℕ) (xs : List A) → length xs ≤ i → each_from f i xs ≡ xs
  each-end f zero [] h = refl
  each-end f zero (x ∷ xs) h = absurd (omega arith)
  each-end f (suc i) [] h = refl
  each-end f (suc i) (x ∷ xs) h = ap (λ (l : List A). x ∷ l) (each-end f i xs (omega arith))

  -- what the place tells comes first of what is still to be told
  pub told-turn : (entry : A → Entry) (f : A → Turn A) (i : ℕ) (xs : List A) (d : A) → i < length xs
      → told_from entry f i xs ≡ told (entry (get_or xs i d)) (f (get_or xs i d)) ++ told_from entry f (i + 1) xs
  told-turn entry f i xs d h = ap (each_told entry f) (drop-cons xs i d h ∙ ap (λ (j : ℕ). get_or xs i d ∷ drop j xs) (sym (add-one i)))

  -- a store or a removal at a place leaves the places behind it as they were
  pub told-stored : (entry : A → Entry) (f : A → Turn A) (i : ℕ) (xs : List A) (y : A) → told_from entry f (i + 1) (set xs i y) ≡ told_from entry f (i + 1) xs
  told-stored entry f i xs y = ap (each_told entry f) (drop-set-lt (i + 1) xs i y (omega arith))

  pub told-removed : (entry : A → Entry) (f : A → Turn A) (i : ℕ) (xs : List A) → told_from entry f i (remove_at i xs) ≡ told_from entry f (i + 1) xs
  told-removed entry f i xs = ap (each_told entry f) (gone i xs ∙ ap (λ (j : ℕ). drop j xs) (sym (add-one i)))
    where
      gone : (i : ℕ) (xs : List A) → drop i (remove_at i xs) ≡ drop (suc i) xs
      gone zero [] = refl
      gone zero (x ∷ xs) = refl
      gone (suc i) [] = refl
      gone (suc i) (x ∷ xs) = gone i xs

  pub told-end : (entry : A → Entry) (f : A → Turn A) (i : ℕ) (xs : List A) → length xs ≤ i → told_from entry f i xs ≡ []
  told-end entry f i xs h = ap (each_told entry f) (drop_of_length-le xs h)

  -- ---- how code asks: a scan for the first, and a fold from the last

  -- the answer of a scan is the place of the first
  pub scan-first : (q : A → Bool) (xs : List A) → place_from q 0 xs ≡ first_at q xs
  scan-first q xs = from 0 xs ∙ bare (first_at q xs)
    where
      bare : (o : Option ℕ) → option_map (λ (j : ℕ). 0 + j) o ≡ o
      bare None = refl
      bare (Some j) = ap Some (zero-add j)

      past : (i : ℕ) (o : Option ℕ) → option_map (λ (j : ℕ). suc i + j) o ≡ option_map (λ (j : ℕ). i + j) (option_map suc o)
      past i None = refl
      past i (Some j) = ap Some (suc-add i j ∙ sym (add-suc i j))

      from : (i : ℕ) (xs : List A) → place_from q i xs ≡ option_map (λ (j : ℕ). i + j) (first_at q xs)
      from i [] = refl
      from i (x ∷ xs) = go (q x) (from (suc i) xs)
        where
          go : (b : Bool) → place_from q (suc i) xs ≡ option_map (λ (j : ℕ). suc i + j) (first_at q xs)
              → pick b (Some i) (place_from q (suc i) xs) ≡ option_map (λ (j : ℕ). i + j) (pick b (Some 0) (option_map suc (first_at q xs)))
          go true h = ap Some (sym (add-zero i))
          go false h = h ∙ past i (first_at q xs)

module _ {A : Type 0} {t : Table A} {ws : List ℕ} {n : ℕ} (h : Held t ws n) where
  room : n ≤ length (rows_of t ws)
  room = omega (arith, length-rows_of t ws, h.within)

  -- the scan has come to place i: the record there has the test or not, or there is none
  module _ (q : A → Bool) (i : ℕ) {p : Option ℕ} (inv : place_from q i (drop i (live t ws n)) ≡ p) where
    pub scan-on : i < n → q (get_or (rows_of t ws) i t.blank) ≡ false → place_from q (i + 1) (drop (i + 1) (live t ws n)) ≡ p
    scan-on l e =
        let c : place_from q i (get_or (rows_of t ws) i t.blank ∷ drop (i + 1) (live t ws n)) ≡ p =
        ap (place_from q i) (sym (live-cons (rows_of t ws) n i t.blank l room)) ∙ inv in
        ap (λ (j : ℕ). place_from q j (drop (i + 1) (live t ws n))) (add-one i)
        ∙ sym (ap (λ (b : Bool). pick b (Some i) (place_from q (suc i) (drop (i + 1) (live t ws n)))) e) ∙ c

    pub scan-here : i < n → q (get_or (rows_of t ws) i t.blank) ≡ true → Some i ≡ p
    scan-here l e =
        let c : place_from q i (get_or (rows_of t ws) i t.blank ∷ drop (i + 1) (live t ws n)) ≡ p =
        ap (place_from q i) (sym (live-cons (rows_of t ws) n i t.blank l room)) ∙ inv in
        sym (ap (λ (b : Bool). pick b (Some i) (place_from q (suc i) (drop (i + 1) (live t ws n)))) e) ∙ c

    pub scan-end : n ≤ i → None ≡ p
    scan-end l = ap (place_from q i) (sym (live-done (rows_of t ws) n i l room)) ∙ inv

  -- the fold has come down to place i
  module _ {B : Type 0} (f : A → B → B) (z : B) where
    pub fold_start : z ≡ fold f z (drop n (live t ws n))
    fold_start = ap (fold f z) (sym (live-done (rows_of t ws) n n (omega arith) room))

    pub fold-turn : (i : ℕ) (b : B) → 0 < i → i ≤ n → b ≡ fold f z (drop i (live t ws n))
        → f (get_or (rows_of t ws) (i - 1) t.blank) b ≡ fold f z (drop (i - 1) (live t ws n))
    fold-turn i b o l e =
        let k : i - 1 + 1 ≡ i = omega arith in
        let m : i - 1 < n = omega arith in
        ap (f (get_or (rows_of t ws) (i - 1) t.blank)) (e ∙ ap (λ (j : ℕ). fold f z (drop j (live t ws n))) (sym k))
        ∙ sym (ap (fold f z) (live-cons (rows_of t ws) n (i - 1) t.blank m room))

    pub fold_end : (i : ℕ) (b : B) → i ≤ 0 → b ≡ fold f z (drop i (live t ws n)) → b ≡ fold f z (live t ws n)
    fold_end i b o e =
        let k : i ≡ 0 = omega arith in
        e ∙ ap (λ (j : ℕ). fold f z (drop j (live t ws n))) k

-- ---- one outcome: any two that a table's contract admits are equal

module _ {A : Type 0} {t : Table A} where
  -- a held table holds its live records
  pub held-holds : {ws : List ℕ} {n : ℕ} → Held t ws n → Holds t ws n (live t ws n)
  held-holds h = record { is = h.words; live-is = refl; held = h }

  -- there are as many as the list has
  pub holds-count : {ws : List ℕ} {n : ℕ} {xs : List A} → Holds t ws n xs → n ≡ length xs
  holds-count h = sym (held-length h.held) ∙ ap length h.live-is

  -- one list, one table
  pub holds-one : {ws ws' : List ℕ} {n n' : ℕ} {xs : List A} → Holds t ws n xs → Holds t ws' n' xs → (ws ≡ ws') × (n ≡ n')
  holds-one h h' = (h.is ∙ sym h'.is, holds-count h ∙ sym (holds-count h'))

  -- an insert has one outcome
  pub entered-one : {ws ws' ws'' : List ℕ} {n : ℕ} {u : A} {r r' : Option ℕ} → Entered t ws n u ws' r → Entered t ws n u ws'' r' → (ws' ≡ ws'') × (r ≡ r')
  entered-one {ws} {ws'} {ws''} {n} {u} {r} {r'} e e' =
      let same : r ≡ r' = e.answer ∙ sym e'.answer in
      (words r e.table (subst⁻¹ (Then t ws n u ws'') same e'.table), same)
    where
      words : (r : Option ℕ) → Then t ws n u ws' r → Then t ws n u ws'' r → ws' ≡ ws''
      words None a b = a ∙ sym b
      words (Some m) a b = (holds-one a b).0

  -- where a place is free, an insert is not refused
  pub never-full : {ws ws' : List ℕ} {n : ℕ} {u : A} {r : Option ℕ} → Held t ws n → n < t.room → Entered t ws n u ws' r → r ≡ None → ⊥
  never-full {u = u} h l e f = let m = full-means h u (sym e.answer ∙ f) in omega (arith, m.1)
