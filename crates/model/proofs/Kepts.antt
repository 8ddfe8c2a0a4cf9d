-- What turns, entering, taking out and choosing keep of a table: its order, its room, how many records have an id, and what holds of every record.
-- Over any type of records. Assumes nothing.
use Rattle.std.specs.Prelude.{Option, None, Some}
use Prim.Native.Nat.{ℕ, suc, ◌+◌, ◌≤◌, ◌<◌}
use native.Mathlib.Omega.{arith}
use mathlib.Core.Path.{◌≡◌, refl, sym, ap, ◌∙◌}
use mathlib.Core.Bool.{Bool, true, false, not}
use mathlib.Core.List.{List, [], ◌∷◌, ◌++◌}
use mathlib.Core.Logic.{⊎_elim}
use lib.ListN.{length}
use lib.Dec.{ltb, eqb}
use Rattle.records.specs.Pick.{pick, bit}
use Rattle.records.specs.declared.Entry.{Entry}
use Rattle.records.proofs.Cases.{either, either-by, eq-or-ne}
use Rattle.rows.specs.Lists.{All, Rising, insert_by, remove_by, lookup}
use Rattle.rows.specs.Moves.{kept, each, at_first, any_of, count, id_of, has_id, Same}
use Rattle.rows.specs.declared.Turn.{Turn}
use Rattle.rows.proofs.Promises.{each-count, first_count, each-rising, first-rising, each-length, first-length, rising-lower, rising-insert, rising-remove, length-remove-le, lookup-insert-same, lookup-insert-other, lookup-remove-other}
use Rattle.model.specs.Calls.{only}
use Rattle.model.specs.Sound.{Kept}

-- ---- what holds of every record

module _ {A : Type 0} (P : A → Type 0) where
  all_append : (xs ys : List A) → All P xs → All P ys → All P (xs ++ ys)
  all_append [] ys a b = b
  all_append (x ∷ xs) ys a b = (a.0, all_append xs ys a.1 b)

  pub all_first : (q : A → Bool) (f : A → Turn A) → ((x : A) → P x → All P (kept (f x))) → (xs : List A) → All P xs → All P (at_first q f xs)
  all_first q f h [] a = tt
  all_first q f h (x ∷ xs) a = either (All P) (q x) (all_append (kept (f x)) xs (h x a.0) a.1) (a.0, all_first q f h xs a.1)

  pub all_insert : (key : A → ℕ) (x : A) → P x → (xs : List A) → All P xs → All P (insert_by key x xs)
  all_insert key x h [] a = (h, tt)
  all_insert key x h (y ∷ ys) a =
      either (All P) (ltb (key y) (key x)) (a.0, all_insert key x h ys a.1) (either (All P) (eqb (key y) (key x)) (h, a.1) (h, a))

module _ {A : Type 0} (P Q : A → Type 0) where
  pub all_map : ((x : A) → P x → Q x) → (xs : List A) → All P xs → All Q xs
  all_map h [] a = tt
  all_map h (x ∷ xs) a = (h x a.0, all_map h xs a.1)

  pub all-each : (f : A → Turn A) → ((x : A) → P x → All Q (kept (f x))) → (xs : List A) → All P xs → All Q (each f xs)
  all-each f h [] a = tt
  all-each f h (x ∷ xs) a = all_append Q (kept (f x)) (each f xs) (h x a.0) (all-each f h xs a.1)

  -- of those chosen the test holds besides
  pub all-only : (q : A → Bool) → ((x : A) → q x ≡ true → P x → Q x) → (xs : List A) → All P xs → All Q (only q xs)
  all-only q h [] a = tt
  all-only q h (x ∷ xs) a =
      either-by (All Q) (q x) (λ e. (h x e a.0, all-only q h xs a.1)) (λ e. all-only q h xs a.1)

-- ---- by key: entering, taking out, choosing

module _ {A : Type 0} (key : A → ℕ) where
  pub insert-length : (x : A) (xs : List A) → length (insert_by key x xs) ≤ suc (length xs)
  insert-length x [] = omega arith
  insert-length x (y ∷ ys) =
      let Fits : List A → Type 0 = λ l. length l ≤ suc (suc (length ys)) in
      let ih : length (insert_by key x ys) ≤ suc (length ys) = insert-length x ys in
      either Fits (ltb (key y) (key x)) (omega arith) (either Fits (eqb (key y) (key x)) (omega arith) (omega arith))

  pub kept-insert : {room : ℕ} (x : A) {xs : List A} → length xs < room → Kept key room xs → Kept key room (insert_by key x xs)
  kept-insert x {xs} l k = record { rising = rising-insert key 0 x xs (omega arith) k.rising; within = omega (arith, insert-length x xs) }

  pub kept-remove : {room : ℕ} (d : ℕ) {xs : List A} → Kept key room xs → Kept key room (remove_by key d xs)
  kept-remove d {xs} k = record { rising = rising-remove key 0 d xs k.rising; within = omega (arith, length-remove-le key d xs, k.within) }

  only-rising : (q : A → Bool) (lo : ℕ) (xs : List A) → Rising key lo xs → Rising key lo (only q xs)
  only-rising q lo [] r = tt
  only-rising q lo (x ∷ xs) r =
      let ih : Rising key (suc (key x)) (only q xs) = only-rising q (suc (key x)) xs r.1 in
      either (Rising key lo) (q x) (r.0, ih) (rising-lower key (suc (key x)) lo (only q xs) (omega (arith, r.0)) ih)

  only-length : (q : A → Bool) (xs : List A) → length (only q xs) ≤ length xs
  only-length q [] = omega arith
  only-length q (x ∷ xs) =
      let ih : length (only q xs) ≤ length xs = only-length q xs in
      either (λ (l : List A). length l ≤ suc (length xs)) (q x) (omega arith) (omega arith)

  pub kept-only : {room : ℕ} (q : A → Bool) {xs : List A} → Kept key room xs → Kept key room (only q xs)
  kept-only q {xs} k = record { rising = only-rising q 0 xs k.rising; within = omega (arith, only-length q xs, k.within) }

-- those chosen and those not are all
pub only-count : {A : Type 0} (p q : A → Bool) (xs : List A) → count p (only q xs) + count p (only (λ (x : A). not (q x)) xs) ≡ count p xs
only-count p q [] = omega arith
only-count p q (x ∷ xs) = go (q x) (only-count p q xs)
  where
    go : (b : Bool) → count p (only q xs) + count p (only (λ y. not (q y)) xs) ≡ count p xs
        → count p (pick b (x ∷ only q xs) (only q xs)) + count p (pick (not b) (x ∷ only (λ y. not (q y)) xs) (only (λ y. not (q y)) xs)) ≡ bit (p x) + count p xs
    go true ih = omega arith
    go false ih = omega arith

-- ---- whether a key is there

abbrev is_there : {A : Type 0} → Option A → Bool
is_there None = false
is_there (Some x) = true

module _ {A : Type 0} (key : A → ℕ) where
  abbrev pub has : ℕ → List A → Bool
  has k xs = any_of (λ (x : A). eqb (key x) k) xs

  has-lookup : (k : ℕ) (xs : List A) → has k xs ≡ is_there (lookup key k xs)
  has-lookup k [] = refl
  has-lookup k (x ∷ xs) = go (eqb (key x) k) (has-lookup k xs)
    where
      go : (b : Bool) → has k xs ≡ is_there (lookup key k xs) → pick b true (has k xs) ≡ is_there (pick b (Some x) (lookup key k xs))
      go true ih = refl
      go false ih = ih

  has-as : (k : ℕ) (xs ys : List A) → lookup key k ys ≡ lookup key k xs → has k ys ≡ has k xs
  has-as k xs ys e = has-lookup k ys ∙ ap is_there e ∙ sym (has-lookup k xs)

  -- a key that enters is there, and so is every other that was
  pub has-inserted : (x : A) (xs : List A) → has (key x) (insert_by key x xs) ≡ true
  has-inserted x xs = has-lookup (key x) (insert_by key x xs) ∙ ap is_there (lookup-insert-same key x xs)

  pub has-insert : (k : ℕ) (x : A) (xs : List A) → has k xs ≡ true → has k (insert_by key x xs) ≡ true
  has-insert k x xs h =
      ⊎_elim (λ e. rw (← e) (has-inserted x xs)) (λ n. has-as k xs (insert_by key x xs) (lookup-insert-other key k x xs n) ∙ h) (eq-or-ne (key x) k)

  -- one that is taken out leaves every other
  pub has-remove : (d k : ℕ) (xs : List A) → (d ≡ k → ⊥) → has k xs ≡ true → has k (remove_by key d xs) ≡ true
  has-remove d k xs n h = has-as k xs (remove_by key d xs) (lookup-remove-other key d k xs n) ∙ h

-- ---- a table of sends

module _ {A : Type 0} (entry : A → Entry) where
  -- one that enters adds at most itself
  pub insert-fewer : (i : ℕ) (x : A) (xs : List A) → count (has_id entry i) (insert_by (id_of entry) x xs) ≤ bit (has_id entry i x) + count (has_id entry i) xs
  insert-fewer i x [] = omega arith
  insert-fewer i x (y ∷ ys) =
      let Fits : List A → Type 0 = λ l. count (has_id entry i) l ≤ bit (has_id entry i x) + (bit (has_id entry i y) + count (has_id entry i) ys) in
      let ih : count (has_id entry i) (insert_by (id_of entry) x ys) ≤ bit (has_id entry i x) + count (has_id entry i) ys = insert-fewer i x ys in
      either Fits (ltb (id_of entry y) (id_of entry x)) (omega arith) (either Fits (eqb (id_of entry y) (id_of entry x)) (omega arith) (omega arith))

  -- what a move leaves of a table: it is kept, and no id has more records than before
  pub record Shrinks (room : ℕ) (xs ys : List A) : Type 0 where
    pub kept : Kept (id_of entry) room ys
    pub fewer : (i : ℕ) → count (has_id entry i) ys ≤ count (has_id entry i) xs

  module _ {room : ℕ} {xs : List A} (k : Kept (id_of entry) room xs) where
    pub stays : Shrinks room xs xs
    stays = record { kept = k; fewer = λ i. omega arith }

    module _ (f : A → Turn A) (same : (x : A) → Same entry x (f x)) where
      pub shrinks-each : Shrinks room xs (each f xs)
      shrinks-each =
          record {
            kept = record { rising = each-rising entry f same 0 xs k.rising; within = omega (arith, each-length f xs, k.within) };
            fewer = λ i. omega (arith, each-count entry (λ (e : Entry). eqb e.id i) f same xs);
          }

      pub shrinks-first : (q : A → Bool) → Shrinks room xs (at_first q f xs)
      shrinks-first q =
          record {
            kept = record { rising = first-rising entry q f same 0 xs k.rising; within = omega (arith, first-length q f xs, k.within) };
            fewer = λ i. omega (arith, first_count entry (λ (e : Entry). eqb e.id i) q f same xs);
          }
