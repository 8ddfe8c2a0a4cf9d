-- The map with one more pair: its place, its order, and what each address is mapped to then. Assumes nothing.
use Prim.Native.Nat.{ℕ, zero, suc, ◌+◌, ◌≤◌, ◌<◌}
use native.Mathlib.Omega.{arith}
use mathlib.Core.Path.{◌≡◌, refl, sym, ap, ap₂, ◌∙◌}
use mathlib.Core.Bool.{Bool, true, false}
use mathlib.Core.List.{List, [], ◌∷◌, ◌++◌}
use mathlib.Core.Logic.{⊎_elim}
use lib.ListN.{length, take, drop, get_or, set, length-set}
use lib.Seq.{sets, length-sets, sets-eq, slice, length-take-le, take_at}
use lib.Dec.{ltb, eqb}
use borrow.Author.Tests.{ltb-true, ltb-false, eqb-true, eqb-false, lt-ltb, le-ltb, eq-eqb, ne_eqb}
use Rattle.std.specs.Prelude.{Ok, Err, Option, None, Some}
use Rattle.std.specs.Ordering.{nat_cmp}
use Rattle.std.specs.List.Sorted.{IsBinarySearchResult}
use Rattle.std.proofs.lemmas.List.Sorted.{searched}
use Rattle.records.specs.Pick.{pick}
use Rattle.records.proofs.Cases.{never, eq-or-ne}
use Rattle.sending.specs.Members.{rises_after, rises_all, map_fits, mapped_in}
use Rattle.listings.specs.Maps.{place_in, is_there, keys_with, shorts_with, MapSound, map_full, pairs_after, PairPut, Remapped}
use Rattle.listings.proofs.Inserts.{front_same, front-on, front-set}

-- ---- the place

pub place-low : (x : ℕ) (ks : List ℕ) → place_in x ks ≤ length ks
place-low x [] = omega arith
place-low x (k ∷ ks) = by-test (ltb k x) refl (place-low x ks)
  where
    by-test : (b : Bool) → ltb k x ≡ b → place_in x ks ≤ length ks → place_in x (k ∷ ks) ≤ length (k ∷ ks)
    by-test true e ih =
        let h = ih in
        rw e (omega arith)
    by-test false e ih = rw e (omega arith)

-- after all that are below x and before one that is not
pub place-is : (x : ℕ) (ks : List ℕ) (p : ℕ) → p ≤ length ks → ((k : ℕ) → k < p → get_or ks k 0 < x) → (p < length ks → x ≤ get_or ks p 0) → place_in x ks ≡ p
place-is x [] p h b a = omega arith
place-is x (k ∷ ks) zero h b a = rw (le-ltb k x (a (omega arith))) refl
place-is x (k ∷ ks) (suc p) h b a =
    rw (lt-ltb k x (b 0 (omega arith))) (ap suc (place-is x ks p (omega arith) (λ i l. b (suc i) (omega arith)) (λ l. a (omega arith))))

-- whether x stands there
pub there-at : (x : ℕ) (ks : List ℕ) → place_in x ks < length ks → is_there x ks ≡ eqb (get_or ks (place_in x ks) 0) x
there-at x [] h = absurd (omega arith)
there-at x (k ∷ ks) h = by-test (ltb k x) refl (λ g. there-at x ks g)
  where
    by-test : (b : Bool) → ltb k x ≡ b → (place_in x ks < length ks → is_there x ks ≡ eqb (get_or ks (place_in x ks) 0) x) → is_there x (k ∷ ks) ≡ eqb (get_or (k ∷ ks) (place_in x (k ∷ ks)) 0) x
    by-test true e ih =
        let g : suc (place_in x ks) < suc (length ks) = rw e at h in
        rw e (ih (omega arith))
    by-test false e ih = rw e refl

pub missing : (x : ℕ) (ks : List ℕ) (p : ℕ) → p ≤ length ks → ((k : ℕ) → k < p → get_or ks k 0 < x) → (p < length ks → x < get_or ks p 0) → is_there x ks ≡ false
missing x [] p h b a = refl
missing x (k ∷ ks) zero h b a =
    let l : x < k = a (omega arith) in
    rw (le-ltb k x (omega arith)) (ne_eqb k x (λ e. absurd (omega arith)))
missing x (k ∷ ks) (suc p) h b a =
    rw (lt-ltb k x (b 0 (omega arith))) (missing x ks p (omega arith) (λ i l. b (suc i) (omega arith)) (λ l. a (omega arith)))

pub there-past : (x : ℕ) (ks : List ℕ) → length ks ≤ place_in x ks → is_there x ks ≡ false
there-past x [] h = refl
there-past x (k ∷ ks) h = by-test (ltb k x) refl (λ g. there-past x ks g)
  where
    by-test : (b : Bool) → ltb k x ≡ b → (length ks ≤ place_in x ks → is_there x ks ≡ false) → is_there x (k ∷ ks) ≡ false
    by-test true e ih =
        let g : suc (length ks) ≤ suc (place_in x ks) = rw e at h in
        rw e (ih (omega arith))
    by-test false e ih =
        let g : suc (length ks) ≤ 0 = rw e at h in
        absurd (omega arith)

-- ---- an address that is there

pub there-low : (x : ℕ) (ks : List ℕ) → is_there x ks ≡ true → place_in x ks < length ks
there-low x [] h = never h
there-low x (k ∷ ks) h = by-test (ltb k x) refl (λ g. there-low x ks g)
  where
    by-test : (b : Bool) → ltb k x ≡ b → (is_there x ks ≡ true → place_in x ks < length ks) → place_in x (k ∷ ks) < length (k ∷ ks)
    by-test true e ih =
        let g = ih (rw e at h) in
        rw e (omega arith)
    by-test false e ih = rw e (omega arith)

pub keys-there : (x : ℕ) (ks : List ℕ) → is_there x ks ≡ true → keys_with x ks ≡ ks
keys-there x [] h = never h
keys-there x (k ∷ ks) h = by-test (ltb k x) refl (λ g. keys-there x ks g)
  where
    by-test : (b : Bool) → ltb k x ≡ b → (is_there x ks ≡ true → keys_with x ks ≡ ks) → keys_with x (k ∷ ks) ≡ k ∷ ks
    by-test true e ih = rw e (ap (λ (l : List ℕ). k ∷ l) (ih (rw e at h)))
    by-test false e ih =
        let f : eqb k x ≡ true = rw e at h in
        rw (e, f) refl

pub shorts-there : (x y : ℕ) (ks ms : List ℕ) → is_there x ks ≡ true → length ks ≡ length ms
    → shorts_with x y ks ms ≡ take (place_in x ks) ms ++ (y ∷ drop (suc (place_in x ks)) ms)
shorts-there x y [] ms h l = never h
shorts-there x y (k ∷ ks) [] h l = absurd (omega arith)
shorts-there x y (k ∷ ks) (m ∷ ms) h l = by-test (ltb k x) refl (λ g. shorts-there x y ks ms g (omega arith))
  where
    by-test : (b : Bool) → ltb k x ≡ b → (is_there x ks ≡ true → shorts_with x y ks ms ≡ take (place_in x ks) ms ++ (y ∷ drop (suc (place_in x ks)) ms)) → shorts_with x y (k ∷ ks) (m ∷ ms) ≡ take (place_in x (k ∷ ks)) (m ∷ ms) ++ (y ∷ drop (suc (place_in x (k ∷ ks))) (m ∷ ms))
    by-test true e ih = rw e (ap (λ (l : List ℕ). m ∷ l) (ih (rw e at h)))
    by-test false e ih =
        let f : eqb k x ≡ true = rw e at h in
        rw (e, f) refl

-- ---- a new one

pub keys-new : (x : ℕ) (ks : List ℕ) → is_there x ks ≡ false → keys_with x ks ≡ take (place_in x ks) ks ++ (x ∷ drop (place_in x ks) ks)
keys-new x [] h = refl
keys-new x (k ∷ ks) h = by-test (ltb k x) refl (λ g. keys-new x ks g)
  where
    by-test : (b : Bool) → ltb k x ≡ b → (is_there x ks ≡ false → keys_with x ks ≡ take (place_in x ks) ks ++ (x ∷ drop (place_in x ks) ks)) → keys_with x (k ∷ ks) ≡ take (place_in x (k ∷ ks)) (k ∷ ks) ++ (x ∷ drop (place_in x (k ∷ ks)) (k ∷ ks))
    by-test true e ih = rw e (ap (λ (l : List ℕ). k ∷ l) (ih (rw e at h)))
    by-test false e ih =
        let f : eqb k x ≡ false = rw e at h in
        rw (e, f) refl

pub shorts-new : (x y : ℕ) (ks ms : List ℕ) → is_there x ks ≡ false → length ks ≡ length ms
    → shorts_with x y ks ms ≡ take (place_in x ks) ms ++ (y ∷ drop (place_in x ks) ms)
shorts-new x y [] [] h l = refl
shorts-new x y [] (m ∷ ms) h l = absurd (omega arith)
shorts-new x y (k ∷ ks) [] h l = absurd (omega arith)
shorts-new x y (k ∷ ks) (m ∷ ms) h l = by-test (ltb k x) refl (λ g. shorts-new x y ks ms g (omega arith))
  where
    by-test : (b : Bool) → ltb k x ≡ b → (is_there x ks ≡ false → shorts_with x y ks ms ≡ take (place_in x ks) ms ++ (y ∷ drop (place_in x ks) ms)) → shorts_with x y (k ∷ ks) (m ∷ ms) ≡ take (place_in x (k ∷ ks)) (m ∷ ms) ++ (y ∷ drop (place_in x (k ∷ ks)) (m ∷ ms))
    by-test true e ih = rw e (ap (λ (l : List ℕ). m ∷ l) (ih (rw e at h)))
    by-test false e ih =
        let f : eqb k x ≡ false = rw e at h in
        rw (e, f) refl

pub keys-longer : (x : ℕ) (ks : List ℕ) → is_there x ks ≡ false → length (keys_with x ks) ≡ suc (length ks)
keys-longer x [] h = refl
keys-longer x (k ∷ ks) h = by-test (ltb k x) refl (λ g. keys-longer x ks g)
  where
    by-test : (b : Bool) → ltb k x ≡ b → (is_there x ks ≡ false → length (keys_with x ks) ≡ suc (length ks)) → length (keys_with x (k ∷ ks)) ≡ suc (length (k ∷ ks))
    by-test true e ih = rw e (ap suc (ih (rw e at h)))
    by-test false e ih =
        let f : eqb k x ≡ false = rw e at h in
        rw (e, f) refl

-- ---- the order

pick-both : (b t : Bool) → pick b t false ≡ true → (b ≡ true) × (t ≡ true)
pick-both true t h = (refl, h)
pick-both false t h = (never h, never h)

above-first : (q : ℕ) (ks : List ℕ) → rises_after q ks ≡ true → (j : ℕ) → j < length ks → q < get_or ks j 0
above-first q [] h j l = absurd (omega arith)
above-first q (k ∷ ks) h zero l = ltb-true q k (pick-both (ltb q k) (rises_after k ks) h).0
above-first q (k ∷ ks) h (suc j) l =
    let t = pick-both (ltb q k) (rises_after k ks) h in
    let a : q < k = ltb-true q k t.0 in
    let b : k < get_or ks j 0 = above-first k ks t.1 j (omega arith) in
    omega arith

rises_rest : (k : ℕ) (ks : List ℕ) → rises_after k ks ≡ true → rises_all ks ≡ true
rises_rest k [] h = refl
rises_rest k (j ∷ ks) h = (pick-both (ltb k j) (rises_after j ks) h).1

-- the later of two is the higher
pub strictly : (ks : List ℕ) → rises_all ks ≡ true → (i j : ℕ) → i < j → j < length ks → get_or ks i 0 < get_or ks j 0
strictly [] h i j m l = absurd (omega arith)
strictly (k ∷ ks) h i zero m l = absurd (omega arith)
strictly (k ∷ ks) h zero (suc j) m l = above-first k ks h j (omega arith)
strictly (k ∷ ks) h (suc i) (suc j) m l = strictly ks (rises_rest k ks h) i j (omega arith) (omega arith)

rising : (ks : List ℕ) → rises_all ks ≡ true → (i j : ℕ) → i ≤ j → j < length ks → get_or ks i 0 ≤ get_or ks j 0
rising ks h i j m l =
    ⊎_elim
    (λ (e : i ≡ j). let f : get_or ks i 0 ≡ get_or ks j 0 = ap (λ (k : ℕ). get_or ks k 0) e in omega arith)
    (λ n. let f = strictly ks h i j (omega (arith, n)) l in omega arith)
    (eq-or-ne i j)

pub rises-after : (q x : ℕ) (ks : List ℕ) → q < x → rises_after q ks ≡ true → rises_after q (keys_with x ks) ≡ true
rises-after q x [] l h = rw (lt-ltb q x l) refl
rises-after q x (k ∷ ks) l h = by_tests (ltb k x) refl (eqb k x) refl (λ a b. rises-after k x ks a b)
  where
    by_tests : (b : Bool) → ltb k x ≡ b → (d : Bool) → eqb k x ≡ d → (k < x → rises_after k ks ≡ true → rises_after k (keys_with x ks) ≡ true)
        → rises_after q (keys_with x (k ∷ ks)) ≡ true
    by_tests true e d f ih =
        let t = pick-both (ltb q k) (rises_after k ks) h in
        rw (e, t.0) (ih (ltb-true k x e) t.1)
    by_tests false e true f ih = rw (e, f) h
    by_tests false e false f ih =
        let t = pick-both (ltb q k) (rises_after k ks) h in
        let a = ltb-false k x e in
        let n : k ≡ x → ⊥ = eqb-false k x f in
        let m : x < k = below n a in
        rw (e, f, lt-ltb q x l, lt-ltb x k m) t.1
      where
        below : (k ≡ x → ⊥) → x ≤ k → x < k
        below n a = omega (arith, n)

pub rises-with : (x : ℕ) (ks : List ℕ) → rises_all ks ≡ true → rises_all (keys_with x ks) ≡ true
rises-with x [] h = refl
rises-with x (k ∷ ks) h = by_tests (ltb k x) refl (eqb k x) refl
  where
    by_tests : (b : Bool) → ltb k x ≡ b → (d : Bool) → eqb k x ≡ d → rises_all (keys_with x (k ∷ ks)) ≡ true
    by_tests true e d f = rw e (rises-after k x ks (ltb-true k x e) h)
    by_tests false e true f = rw (e, f) h
    by_tests false e false f =
        let a = ltb-false k x e in
        let n : k ≡ x → ⊥ = eqb-false k x f in
        let m : x < k = omega (arith, n) in
        rw (e, f, lt-ltb x k m) h

pub pairs-long : (x y : ℕ) (ks ms : List ℕ) → length ks ≡ length ms → length (shorts_with x y ks ms) ≡ length (keys_with x ks)
pairs-long x y [] ms l = refl
pairs-long x y (k ∷ ks) [] l = absurd (omega arith)
pairs-long x y (k ∷ ks) (m ∷ ms) l = by_tests (ltb k x) refl (eqb k x) refl (pairs-long x y ks ms (omega arith))
  where
    by_tests : (b : Bool) → ltb k x ≡ b → (d : Bool) → eqb k x ≡ d → length (shorts_with x y ks ms) ≡ length (keys_with x ks)
        → length (shorts_with x y (k ∷ ks) (m ∷ ms)) ≡ length (keys_with x (k ∷ ks))
    by_tests true e d f ih = rw e (ap suc ih)
    by_tests false e true f ih = rw (e, f) (sym l)
    by_tests false e false f ih = rw (e, f) (ap suc (sym l))

-- ---- what each address is mapped to

pub mapped-new : (x y : ℕ) (ks ms : List ℕ) → length ks ≡ length ms → mapped_in x (keys_with x ks) (shorts_with x y ks ms) ≡ Some y
mapped-new x y [] ms l = rw (eq-eqb x x refl) refl
mapped-new x y (k ∷ ks) [] l = absurd (omega arith)
mapped-new x y (k ∷ ks) (m ∷ ms) l = by_tests (ltb k x) refl (eqb k x) refl (mapped-new x y ks ms (omega arith))
  where
    by_tests : (b : Bool) → ltb k x ≡ b → (d : Bool) → eqb k x ≡ d → mapped_in x (keys_with x ks) (shorts_with x y ks ms) ≡ Some y
        → mapped_in x (keys_with x (k ∷ ks)) (shorts_with x y (k ∷ ks) (m ∷ ms)) ≡ Some y
    by_tests true e d f ih =
        let a = ltb-true k x e in
        let g : eqb k x ≡ false = ne_eqb k x (λ q. absurd (omega arith)) in
        rw (e, g) ih
    by_tests false e true f ih = rw (e, f) (rw f refl)
    by_tests false e false f ih = rw (e, f) (rw (eq-eqb x x refl) refl)

pub mapped-other : (x y z : ℕ) (ks ms : List ℕ) → length ks ≡ length ms → (z ≡ x → ⊥)
    → mapped_in z (keys_with x ks) (shorts_with x y ks ms) ≡ mapped_in z ks ms
mapped-other x y z [] ms l n = rw (ne_eqb x z (λ q. n (sym q))) refl
mapped-other x y z (k ∷ ks) [] l n = absurd (omega arith)
mapped-other x y z (k ∷ ks) (m ∷ ms) l n = by_tests (ltb k x) refl (eqb k x) refl (mapped-other x y z ks ms (omega arith) n)
  where
    by_tests : (b : Bool) → ltb k x ≡ b → (d : Bool) → eqb k x ≡ d → mapped_in z (keys_with x ks) (shorts_with x y ks ms) ≡ mapped_in z ks ms
        → mapped_in z (keys_with x (k ∷ ks)) (shorts_with x y (k ∷ ks) (m ∷ ms)) ≡ mapped_in z (k ∷ ks) (m ∷ ms)
    by_tests true e d f ih = rw e (ap (λ (o : Option ℕ). pick (eqb k z) (Some m) o) ih)
    by_tests false e true f ih =
        let a : k ≡ x = eqb-true k x f in
        let g : eqb k z ≡ false = ne_eqb k z (λ q. n (sym q ∙ a)) in
        rw (e, f, g) refl
    by_tests false e false f ih = rw (e, f, ne_eqb x z (λ q. n (sym q))) refl

-- ---- the arrays

pub take-front : (l zs : List ℕ) → length zs ≤ length l → take (length zs) (sets l 0 zs) ≡ zs
take-front l zs h = ap (take (length zs)) (sets-eq zs l 0 (omega arith)) ∙ take_at zs (drop (0 + length zs) l) (length zs) refl

module _ {n : ℕ} {es ns : List ℕ} (s : MapSound es ns n) where
  keys-count : length (take n es) ≡ n
  keys-count =
      let l = s.key_room in
      let f = s.few in
      length-take-le n es (omega arith)

  both_long : length (take n es) ≡ length (take n ns)
  both_long =
      let l = s.short_room in
      let f = s.few in
      keys-count ∙ sym (length-take-le n ns (omega arith))

  -- the place is one of the first n, or the next
  pub place-few : (x p : ℕ) → p ≡ place_in x (take n es) → p ≤ n
  place-few x p e =
      let c = keys-count in
      let l = place-low x (take n es) in
      omega arith

  pub place-there : (x p : ℕ) → p ≡ place_in x (take n es) → is_there x (take n es) ≡ true → p < 32
  place-there x p e t =
      let c = keys-count in
      let f = s.few in
      let l = there-low x (take n es) t in
      omega arith

  pub below-room : (n ≡ 32 → ⊥) → n < 32
  below-room h =
      let f = s.few in
      omega (arith, h)

  -- what the search of them found
  pub found : (x p : ℕ) → IsBinarySearchResult (λ y. nat_cmp y x) (take n es) (Ok p) → (p ≡ place_in x (take n es)) × (is_there x (take n es) ≡ true)
  found x p h =
      let ks : List ℕ = take n es in
      let t = searched ks x (Ok p) h (rising ks s.rises) in
      let l : p < length ks = t.0 in
      let e : get_or ks p 0 ≡ x = t.1 in
      let f : place_in x ks ≡ p = place-is x ks p (omega arith) (λ k m. let g = strictly ks s.rises k p m l in omega arith) (λ m. omega arith) in
      let g : get_or ks (place_in x ks) 0 ≡ x = ap (λ (k : ℕ). get_or ks k 0) f ∙ e in
      (sym f, there-at x ks (omega arith) ∙ eq-eqb (get_or ks (place_in x ks) 0) x g)

  pub missed : (x p : ℕ) → IsBinarySearchResult (λ y. nat_cmp y x) (take n es) (Err p) → (p ≡ place_in x (take n es)) × (is_there x (take n es) ≡ false)
  missed x p h =
      let ks : List ℕ = take n es in
      let t = searched ks x (Err p) h (rising ks s.rises) in
      let f : place_in x ks ≡ p = place-is x ks p t.0 t.1 (λ m. let g = t.2 p (omega arith) m in omega arith) in
      (sym f, missing x ks p t.0 t.1 (λ m. t.2 p (omega arith) m))

module _ (x y : ℕ) {n : ℕ} {es ns : List ℕ} (s : MapSound es ns n) where
  -- an address that is there
  pub pair-there : (p : ℕ) → p ≡ place_in x (take n es) → is_there x (take n es) ≡ true → PairPut x y n es ns es (set ns p y) (Some n)
  pair-there p e t =
      let a = s.key_room in
      let b = s.short_room in
      let f = s.few in
      let c = keys-count s in
      let k : keys_with x (take n es) ≡ take n es = keys-there x (take n es) t in
      let m : length (keys_with x (take n es)) ≡ n = ap length k ∙ c in
      let g : map_full x es n ≡ false = le-ltb 32 (length (keys_with x (take n es))) (omega arith) in
      let l : place_in x (take n es) < length (take n es) = there-low x (take n es) t in
      let q : shorts_with x y (take n es) (take n ns) ≡ take p (take n ns) ++ (y ∷ drop (suc p) (take n ns)) =
      shorts-there x y (take n es) (take n ns) t (both_long s)
      ∙ ap (λ (i : ℕ). take i (take n ns) ++ (y ∷ drop (suc i) (take n ns))) (sym e) in
      record {
        answer = ap Some (sym m) ∙ ap (λ (b : Bool). pick b None (Some (length (keys_with x (take n es))))) (sym g);
        keys = sym (front_same es n (omega arith)) ∙ ap (sets es 0) (sym k) ∙ ap (λ (b : Bool). pick b es (sets es 0 (keys_with x (take n es)))) (sym g);
        shorts = sym (front-set ns n p y (omega arith) (omega arith)) ∙ ap (sets ns 0) (sym q)
            ∙ ap (λ (b : Bool). pick b ns (sets ns 0 (shorts_with x y (take n es) (take n ns)))) (sym g);
        sound = record { key_room = a; short_room = length-set ns p y ∙ b; few = f; rises = s.rises };
      }

  -- a new one, and no place
  pub pair-full : is_there x (take n es) ≡ false → n ≡ 32 → PairPut x y n es ns es ns None
  pair-full t e =
      let c = keys-count s in
      let m : length (keys_with x (take n es)) ≡ suc (length (take n es)) = keys-longer x (take n es) t in
      let g : map_full x es n ≡ true = lt-ltb 32 (length (keys_with x (take n es))) (omega arith) in
      record {
        answer = ap (λ (b : Bool). pick b None (Some (length (keys_with x (take n es))))) (sym g);
        keys = ap (λ (b : Bool). pick b es (sets es 0 (keys_with x (take n es)))) (sym g);
        shorts = ap (λ (b : Bool). pick b ns (sets ns 0 (shorts_with x y (take n es) (take n ns)))) (sym g);
        sound = s;
      }

  -- a new one at its place
  pub pair-new : (p : ℕ) {es' ns' : List ℕ} → p ≡ place_in x (take n es) → is_there x (take n es) ≡ false → n < 32
      → es' ≡ sets es p (x ∷ slice p n es) → ns' ≡ sets ns p (y ∷ slice p n ns) → PairPut x y n es ns es' ns' (Some (n + 1))
  pair-new p {es'} {ns'} e t h u v =
      let a = s.key_room in
      let b = s.short_room in
      let c = keys-count s in
      let w = place-few s x p e in
      let ks : List ℕ = keys_with x (take n es) in
      let d : length ks ≡ suc (length (take n es)) = keys-longer x (take n es) t in
      let m : length ks ≡ n + 1 = omega arith in
      let g : map_full x es n ≡ false = le-ltb 32 (length ks) (omega arith) in
      let k : ks ≡ take p (take n es) ++ (x ∷ drop p (take n es)) =
      keys-new x (take n es) t ∙ ap (λ (i : ℕ). take i (take n es) ++ (x ∷ drop i (take n es))) (sym e) in
      let q : shorts_with x y (take n es) (take n ns) ≡ take p (take n ns) ++ (y ∷ drop p (take n ns)) =
      shorts-new x y (take n es) (take n ns) t (both_long s) ∙ ap (λ (i : ℕ). take i (take n ns) ++ (y ∷ drop i (take n ns))) (sym e) in
      let z : es' ≡ sets es 0 ks = u ∙ sym (front-on es n p (x ∷ slice p n es) w (omega arith)) ∙ ap (sets es 0) (sym k) in
      let r : take (n + 1) es' ≡ ks = ap₂ (λ (i : ℕ) (l : List ℕ). take i l) (sym m) z ∙ take-front es ks (omega arith) in
      record {
        answer = ap Some (sym m) ∙ ap (λ (b : Bool). pick b None (Some (length ks))) (sym g);
        keys = z ∙ ap (λ (b : Bool). pick b es (sets es 0 ks)) (sym g);
        shorts = v ∙ sym (front-on ns n p (y ∷ slice p n ns) w (omega arith)) ∙ ap (sets ns 0) (sym q)
            ∙ ap (λ (b : Bool). pick b ns (sets ns 0 (shorts_with x y (take n es) (take n ns)))) (sym g);
        sound = record {
          key_room = ap length u ∙ length-sets es p (x ∷ slice p n es) ∙ a;
          short_room = ap length v ∙ length-sets ns p (y ∷ slice p n ns) ∙ b;
          few = omega arith;
          rises = ap rises_all r ∙ rises-with x (take n es) s.rises;
        };
      }

-- ---- what a caller has then

-- a sound map is one that a call takes
pub sound-fits : {n : ℕ} {es ns : List ℕ} → MapSound es ns n → map_fits (take n es) (take n ns) ≡ true
sound-fits {n} {es} {ns} s = rw (eq-eqb (length (take n es)) (length (take n ns)) (both_long s)) s.rises

abbrev is_pairs : Option ℕ → Bool
is_pairs None = false
is_pairs (Some m) = true

pub pair-maps : {x y n m : ℕ} {es ns es' ns' : List ℕ} {r : Option ℕ} → MapSound es ns n → PairPut x y n es ns es' ns' r → r ≡ Some m
    → Remapped x y n m es ns es' ns'
pair-maps {x} {y} {n} {m} {es} {ns} {es'} {ns'} {r} s p e = by-test (map_full x es n) refl
  where
    by-test : (b : Bool) → map_full x es n ≡ b → Remapped x y n m es ns es' ns'
    by-test true f = never (sym (ap is_pairs (p.answer ∙ ap (λ (b : Bool). pick b None (Some (length (keys_with x (take n es))))) f)) ∙ ap is_pairs e)
    by-test false f =
        let ks : List ℕ = keys_with x (take n es) in
        let ss : List ℕ = shorts_with x y (take n es) (take n ns) in
        let a = s.key_room in
        let b = s.short_room in
        let l = both_long s in
        let h : length ks ≤ 32 = ltb-false 32 (length ks) f in
        let j : length ss ≡ length ks = pairs-long x y (take n es) (take n ns) l in
        let i : m ≡ length ks = ap (pairs_after 0) (sym e ∙ p.answer ∙ ap (λ (b : Bool). pick b None (Some (length ks))) f) in
        let u : take m es' ≡ ks =
        ap₂ (λ (k : ℕ) (v : List ℕ). take k v) i (p.keys ∙ ap (λ (b : Bool). pick b es (sets es 0 ks)) f) ∙ take-front es ks (omega arith) in
        let v : take m ns' ≡ ss =
        ap₂ (λ (k : ℕ) (v : List ℕ). take k v) (i ∙ sym j) (p.shorts ∙ ap (λ (b : Bool). pick b ns (sets ns 0 ss)) f)
        ∙ take-front ns ss (omega arith) in
        let g : map_fits ks ss ≡ true = rw (eq-eqb (length ks) (length ss) (sym j)) (rises-with x (take n es) s.rises) in
        record {
          fits = ap₂ (λ (k v : List ℕ). map_fits k v) u v ∙ g;
          new = ap₂ (λ (k v : List ℕ). mapped_in x k v) u v ∙ mapped-new x y (take n es) (take n ns) l;
          others = λ z n'. ap₂ (λ (k v : List ℕ). mapped_in z k v) u v ∙ mapped-other x y z (take n es) (take n ns) l n';
        }

-- refused: nothing changes, and there are 32
pub pair-refused : {x y n : ℕ} {es ns es' ns' : List ℕ} {r : Option ℕ} → MapSound es ns n → PairPut x y n es ns es' ns' r → r ≡ None
    → (es' ≡ es) × ((ns' ≡ ns) × ((n ≡ 32) × (is_there x (take n es) ≡ false)))
pair-refused {x} {y} {n} {es} {ns} {es'} {ns'} {r} s p e = by-test (map_full x es n) refl
  where
    none : map_full x es n ≡ true → (b : Bool) → is_there x (take n es) ≡ b → (n ≡ 32) × (is_there x (take n es) ≡ false)
    none f true t =
        let a : 32 < length (keys_with x (take n es)) = ltb-true 32 (length (keys_with x (take n es))) f in
        let b : length (keys_with x (take n es)) ≡ length (take n es) = ap length (keys-there x (take n es) t) in
        let c = keys-count s in
        let d = s.few in
        absurd (omega arith)
    none f false t =
        let a : 32 < length (keys_with x (take n es)) = ltb-true 32 (length (keys_with x (take n es))) f in
        let b = keys-longer x (take n es) t in
        let c = keys-count s in
        let d = s.few in
        (omega arith, t)

    by-test : (b : Bool) → map_full x es n ≡ b → (es' ≡ es) × ((ns' ≡ ns) × ((n ≡ 32) × (is_there x (take n es) ≡ false)))
    by-test true f = (
      p.keys ∙ ap (λ (b : Bool). pick b es (sets es 0 (keys_with x (take n es)))) f,
      (p.shorts ∙ ap (λ (b : Bool). pick b ns (sets ns 0 (shorts_with x y (take n es) (take n ns)))) f, none f (is_there x (take n es)) refl),
    )
    by-test false f = never (sym (ap is_pairs e) ∙ ap is_pairs (p.answer ∙ ap (λ (b : Bool). pick b None (Some (length (keys_with x (take n es))))) f))

-- where they rise, an address that is not at its place is mapped to nothing
pub above-none : (x q : ℕ) (ks ms : List ℕ) → x < q → rises_after q ks ≡ true → mapped_in x ks ms ≡ None
above-none x q [] ms l h = refl
above-none x q (k ∷ ks) [] l h = refl
above-none x q (k ∷ ks) (m ∷ ms) l h =
    let t = pick-both (ltb q k) (rises_after k ks) h in
    let a = ltb-true q k t.0 in
    let g : eqb k x ≡ false = ne_eqb k x (λ e. absurd (omega arith)) in
    rw g (above-none x k ks ms (omega arith) t.1)

rises-tail : (k : ℕ) (ks : List ℕ) → rises_after k ks ≡ true → rises_all ks ≡ true
rises-tail k [] h = refl
rises-tail k (j ∷ ks) h = (pick-both (ltb k j) (rises_after j ks) h).1

pub absent_none : (x : ℕ) (ks ms : List ℕ) → rises_all ks ≡ true → is_there x ks ≡ false → mapped_in x ks ms ≡ None
absent_none x [] ms h t = refl
absent_none x (k ∷ ks) [] h t = refl
absent_none x (k ∷ ks) (m ∷ ms) h t = by-test (ltb k x) refl (λ u. absent_none x ks ms (rises-tail k ks h) u)
  where
    by-test : (b : Bool) → ltb k x ≡ b → (is_there x ks ≡ false → mapped_in x ks ms ≡ None) → mapped_in x (k ∷ ks) (m ∷ ms) ≡ None
    by-test true e ih =
        let a = ltb-true k x e in
        let g : eqb k x ≡ false = ne_eqb k x (λ q. absurd (omega arith)) in
        rw g (ih (rw e at t))
    by-test false e ih =
        let f : eqb k x ≡ false = rw e at t in
        let a = ltb-false k x e in
        let n : k ≡ x → ⊥ = eqb-false k x f in
        let l : x < k = omega (arith, n) in
        rw f (above-none x k ks ms l h)
