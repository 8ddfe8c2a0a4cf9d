-- Lists of records in rising key: where a key has its place, and what finding, inserting and removing do to one another. Over any type of
-- records and any key. Assumes nothing.
use Rattle.std.specs.Prelude.{None, Some, option_map}
use Prim.Native.Nat.{ℕ, zero, suc, ◌≤◌, ◌<◌, suc-le-suc}
use native.Mathlib.Nat.{le_of_suc-le-suc}
use native.Mathlib.Omega.{arith}
use mathlib.Core.Path.{◌≡◌, refl, ap}
use mathlib.Core.List.{List, [], ◌∷◌}
use mathlib.Core.Logic.{◌⊎◌, inl, inr, ⊎_elim}
use lib.ListN.{length, get_or, set}
use borrow.Author.Tests.{lt-ltb, le-ltb, eq-eqb, ne_eqb}
use Rattle.records.proofs.Cases.{lt-or-le, eq-or-ne}
use Rattle.rows.specs.Lists.{place_of, find_by, insert_by, remove_by, insert_at, remove_at, Rising}

module _ {A : Type 0} (key : A → ℕ) where
  -- ---- places

  pub place-le : (k : ℕ) (xs : List A) → place_of key k xs ≤ length xs
  place-le k [] = omega arith
  place-le k (y ∷ ys) =
      let ih : place_of key k ys ≤ length ys = place-le k ys in
      ⊎_elim (λ h. rw (lt-ltb (key y) k h) (omega arith)) (λ h. rw (le-ltb (key y) k h) (omega arith)) (lt-or-le (key y) k)

  -- the place is at or before each record whose key is not below k
  pub place-before : (k : ℕ) (xs : List A) (i : ℕ) (d : A) → i < length xs → k ≤ key (get_or xs i d) → place_of key k xs ≤ i
  place-before k [] i d n h = omega arith
  place-before k (y ∷ ys) zero d n h = rw (le-ltb (key y) k h) (omega arith)
  place-before k (y ∷ ys) (suc i) d n h =
      let ih : place_of key k ys ≤ i = place-before k ys i d (omega arith) h in
      ⊎_elim (λ l. rw (lt-ltb (key y) k l) (omega arith)) (λ l. rw (le-ltb (key y) k l) (omega arith)) (lt-or-le (key y) k)

  -- every key of a rising list is at least where it starts
  pub rising-from : (lo : ℕ) (xs : List A) (i : ℕ) (d : A) → Rising key lo xs → i < length xs → lo ≤ key (get_or xs i d)
  rising-from lo [] i d r n = absurd (omega arith)
  rising-from lo (y ∷ ys) zero d r n = r.0
  rising-from lo (y ∷ ys) (suc i) d r n =
      let ih : suc (key y) ≤ key (get_or ys i d) = rising-from (suc (key y)) ys i d r.1 (omega arith) in
      omega arith

  -- the place is past each record whose key is below k
  pub place_after : (lo k : ℕ) (xs : List A) (i : ℕ) (d : A) → Rising key lo xs → i < length xs → key (get_or xs i d) < k → i < place_of key k xs
  place_after lo k [] i d r n h = absurd (omega arith)
  place_after lo k (y ∷ ys) zero d r n h = rw (lt-ltb (key y) k h) (omega arith)
  place_after lo k (y ∷ ys) (suc i) d r n h =
      let l : key y < k = omega (arith, rising-from (suc (key y)) ys i d r.1 (omega arith)) in
      let ih : i < place_of key k ys = place_after (suc (key y)) k ys i d r.1 (omega arith) h in
      rw (lt-ltb (key y) k l) (omega arith)

  -- ---- what is found

  -- the record at the place has the key: it is found there
  pub find-hit : (k : ℕ) (xs : List A) (d : A) → place_of key k xs < length xs → key (get_or xs (place_of key k xs) d) ≡ k
      → find_by key k xs ≡ Some (place_of key k xs)
  find-hit k [] d n e = absurd (omega arith)
  find-hit k (y ∷ ys) d n e =
      ⊎_elim
      (λ l.
      rw (lt-ltb (key y) k l, ne_eqb (key y) k (λ q. omega arith))
      (ap (option_map suc) (find-hit k ys d (le_of_suc-le-suc (rw (lt-ltb (key y) k l) at n)) (rw (lt-ltb (key y) k l) at e))))
      (λ l. rw (le-ltb (key y) k l, eq-eqb (key y) k (rw (le-ltb (key y) k l) at e)))
      (lt-or-le (key y) k)

  -- nothing is found among records that start past k
  pub find_past : (lo k : ℕ) (xs : List A) → Rising key lo xs → k < lo → find_by key k xs ≡ None
  find_past lo k [] r h = refl
  find_past lo k (y ∷ ys) r h =
      rw (ne_eqb (key y) k (λ q. omega arith)) (ap (option_map suc) (find_past (suc (key y)) k ys r.1 (omega arith)))

  -- there is no record at the place, or its key is another: nothing is found
  pub find-miss : (lo k : ℕ) (xs : List A) (d : A) → Rising key lo xs → (place_of key k xs < length xs → key (get_or xs (place_of key k xs) d) ≡ k → ⊥)
      → find_by key k xs ≡ None
  find-miss lo k [] d r n = refl
  find-miss lo k (y ∷ ys) d r n =
      ⊎_elim
      (λ l.
      rw (ne_eqb (key y) k (λ q. omega arith))
      (ap (option_map suc) (find-miss (suc (key y)) k ys d r.1 (λ h e. rw (lt-ltb (key y) k l) at n (suc-le-suc h) e))))
      (λ l.
      let m : key y ≡ k → ⊥ = rw (le-ltb (key y) k l) at n (omega arith) in
      rw (ne_eqb (key y) k m) (ap (option_map suc) (find_past (suc (key y)) k ys r.1 (omega arith))))
      (lt-or-le (key y) k)

  -- the two cases of finding
  pub record Hit (k : ℕ) (xs : List A) (d : A) : Type 0 where
    pub finds : find_by key k xs ≡ Some (place_of key k xs)
    pub there : place_of key k xs < length xs
    pub has : key (get_or xs (place_of key k xs) d) ≡ k

  pub record Miss (k : ℕ) (xs : List A) (d : A) : Type 0 where
    pub finds : find_by key k xs ≡ None
    pub lacks : place_of key k xs < length xs → key (get_or xs (place_of key k xs) d) ≡ k → ⊥

  pub hit-or-miss : (lo k : ℕ) (xs : List A) (d : A) → Rising key lo xs → Hit k xs d ⊎ Miss k xs d
  hit-or-miss lo k xs d r = ⊎_elim (λ n. ⊎_elim (λ e. inl (record { finds = find-hit k xs d n e; there = n; has = e })) (λ e. inr (miss (λ _. e))) (eq-or-ne _ k)) (λ n. inr (miss (λ h e. omega arith))) (lt-or-le (place_of key k xs) (length xs))
    where
      miss : (place_of key k xs < length xs → key (get_or xs (place_of key k xs) d) ≡ k → ⊥) → Miss k xs d
      miss f = record { finds = find-miss lo k xs d r f; lacks = f }

  -- what is found stands at the place of its key
  pub found : (lo k : ℕ) (xs : List A) (i : ℕ) (d : A) → Rising key lo xs → find_by key k xs ≡ Some i → (i ≡ place_of key k xs) × Hit k xs d
  found lo k xs i d r e =
      ⊎_elim
      (λ h. let f = h.finds in (cc, h))
      (λ h. let f = h.finds in let z : ◌≡◌ {A = ℕ} 0 1 = cc in absurd (omega arith))
      (hit-or-miss lo k xs d r)

  pub not_found : (lo k : ℕ) (xs : List A) (d : A) → Rising key lo xs → find_by key k xs ≡ None → Miss k xs d
  not_found lo k xs d r e =
      ⊎_elim (λ h. let f = h.finds in let z : ◌≡◌ {A = ℕ} 0 1 = cc in absurd (omega arith)) (λ h. h) (hit-or-miss lo k xs d r)

  -- ---- inserting and removing, by the place

  pub insert-hit : (x : A) (xs : List A) (d : A) → place_of key (key x) xs < length xs → key (get_or xs (place_of key (key x) xs) d) ≡ key x
      → insert_by key x xs ≡ set xs (place_of key (key x) xs) x
  insert-hit x [] d n e = absurd (omega arith)
  insert-hit x (y ∷ ys) d n e =
      ⊎_elim
      (λ l.
      rw (lt-ltb (key y) (key x) l)
      (ap (λ (t : List A). y ∷ t)
      (insert-hit x ys d (le_of_suc-le-suc (rw (lt-ltb (key y) (key x) l) at n)) (rw (lt-ltb (key y) (key x) l) at e))))
      (λ l. rw (le-ltb (key y) (key x) l, eq-eqb (key y) (key x) (rw (le-ltb (key y) (key x) l) at e)))
      (lt-or-le (key y) (key x))

  pub insert-miss : (x : A) (xs : List A) (d : A)
      → (place_of key (key x) xs < length xs → key (get_or xs (place_of key (key x) xs) d) ≡ key x → ⊥)
      → insert_by key x xs ≡ insert_at (place_of key (key x) xs) x xs
  insert-miss x [] d n = refl
  insert-miss x (y ∷ ys) d n =
      ⊎_elim
      (λ l.
      rw (lt-ltb (key y) (key x) l)
      (ap (λ (t : List A). y ∷ t) (insert-miss x ys d (λ h e. rw (lt-ltb (key y) (key x) l) at n (suc-le-suc h) e))))
      (λ l. rw (le-ltb (key y) (key x) l, ne_eqb (key y) (key x) (rw (le-ltb (key y) (key x) l) at n (omega arith))))
      (lt-or-le (key y) (key x))

  pub remove-hit : (k : ℕ) (xs : List A) (d : A) → place_of key k xs < length xs → key (get_or xs (place_of key k xs) d) ≡ k
      → remove_by key k xs ≡ remove_at (place_of key k xs) xs
  remove-hit k [] d n e = absurd (omega arith)
  remove-hit k (y ∷ ys) d n e =
      ⊎_elim
      (λ l.
      rw (lt-ltb (key y) k l, ne_eqb (key y) k (λ q. omega arith))
      (ap (λ (t : List A). y ∷ t) (remove-hit k ys d (le_of_suc-le-suc (rw (lt-ltb (key y) k l) at n)) (rw (lt-ltb (key y) k l) at e))))
      (λ l. rw (le-ltb (key y) k l, eq-eqb (key y) k (rw (le-ltb (key y) k l) at e)))
      (lt-or-le (key y) k)

  pub remove-past : (lo k : ℕ) (xs : List A) → Rising key lo xs → k < lo → remove_by key k xs ≡ xs
  remove-past lo k [] r h = refl
  remove-past lo k (y ∷ ys) r h =
      rw (ne_eqb (key y) k (λ q. omega arith)) (ap (λ (t : List A). y ∷ t) (remove-past (suc (key y)) k ys r.1 (omega arith)))

  pub remove-miss : (lo k : ℕ) (xs : List A) (d : A) → Rising key lo xs
      → (place_of key k xs < length xs → key (get_or xs (place_of key k xs) d) ≡ k → ⊥) → remove_by key k xs ≡ xs
  remove-miss lo k [] d r n = refl
  remove-miss lo k (y ∷ ys) d r n =
      ⊎_elim
      (λ l.
      rw (ne_eqb (key y) k (λ q. omega arith))
      (ap (λ (t : List A). y ∷ t) (remove-miss (suc (key y)) k ys d r.1 (λ h e. rw (lt-ltb (key y) k l) at n (suc-le-suc h) e))))
      (λ l.
      let m : key y ≡ k → ⊥ = rw (le-ltb (key y) k l) at n (omega arith) in
      rw (ne_eqb (key y) k m) (ap (λ (t : List A). y ∷ t) (remove-past (suc (key y)) k ys r.1 (omega arith))))
      (lt-or-le (key y) k)
