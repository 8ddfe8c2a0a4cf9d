-- The address map with one more pair: two lists of one length, the extended addresses in rising order and the short address of each.
use Rattle.std.specs.Prelude.{ℕ, suc, ◌≤◌, ◌≡◌, Bool, true, false, List, [], ◌∷◌, length, take, ltb, eqb, Option, None, Some}
use Rattle.std.proofs.lemmas.List.Edits.{sets}
use Rattle.records.specs.Pick.{pick}
use Rattle.sending.specs.Members.{rises_all, map_fits, mapped_in}

-- ---- the place of an address

-- how many stand before the first that is not below x
abbrev pub place_in : ℕ → List ℕ → ℕ
place_in x [] = 0
place_in x (k ∷ ks) = pick (ltb k x) (suc (place_in x ks)) 0

-- the first that is not below x is x
abbrev pub is_there : ℕ → List ℕ → Bool
is_there x [] = false
is_there x (k ∷ ks) = pick (ltb k x) (is_there x ks) (eqb k x)

-- ---- the map in which x has the short address y

-- the extended addresses: x before the first above it, unless it is there
abbrev pub keys_with : ℕ → List ℕ → List ℕ
keys_with x [] = x ∷ []
keys_with x (k ∷ ks) = pick (ltb k x) (k ∷ keys_with x ks) (pick (eqb k x) (k ∷ ks) (x ∷ k ∷ ks))

-- the short ones: y at the same place, put there or in place of the one that is there
abbrev pub shorts_with : ℕ → ℕ → List ℕ → List ℕ → List ℕ
shorts_with x y [] ms = y ∷ []
shorts_with x y (k ∷ ks) [] = []
shorts_with x y (k ∷ ks) (m ∷ ms) = pick (ltb k x) (m ∷ shorts_with x y ks ms) (pick (eqb k x) (y ∷ ms) (y ∷ m ∷ ms))

-- ---- in two lent arrays

-- the arrays have n pairs, the extended addresses strictly rising
pub record MapSound (es ns : List ℕ) (n : ℕ) : Type 0 where
  pub key_room : length es ≡ 32
  pub short_room : length ns ≡ 32
  pub few : n ≤ 32
  pub rises : rises_all (take n es) ≡ true

-- there would be more than 32
abbrev pub map_full : ℕ → List ℕ → ℕ → Bool
map_full x es n = ltb 32 (length (keys_with x (take n es)))

abbrev pub pairs_after : ℕ → Option ℕ → ℕ
pairs_after n None = n
pairs_after n (Some m) = m

-- the arrays begin with the new map and stay as they were behind it; with more than 32 they stay as they were
pub record PairPut (x y n : ℕ) (es ns es' ns' : List ℕ) (r : Option ℕ) : Type 0 where
  pub answer : r ≡ pick (map_full x es n) None (Some (length (keys_with x (take n es))))
  pub keys : es' ≡ pick (map_full x es n) es (sets es 0 (keys_with x (take n es)))
  pub shorts : ns' ≡ pick (map_full x es n) ns (sets ns 0 (shorts_with x y (take n es) (take n ns)))
  pub sound : MapSound es' ns' (pairs_after n r)

-- the m pairs are a map that a call takes, x is mapped to y, and every other address to what it was by the n pairs
pub record Remapped (x y n m : ℕ) (es ns es' ns' : List ℕ) : Type 0 where
  pub fits : map_fits (take m es') (take m ns') ≡ true
  pub new : mapped_in x (take m es') (take m ns') ≡ Some y
  pub others : (z : ℕ) → (z ≡ x → ⊥) → mapped_in z (take m es') (take m ns') ≡ mapped_in z (take n es) (take n ns)
