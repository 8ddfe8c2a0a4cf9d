-- A table as the list of its records in rising key: what finding, inserting and removing mean. Over the type A of the records, the key that they
-- are kept under, the blank that fills a free place, and the number of places.
use Rattle.std.specs.Prelude.{ℕ, zero, suc, ◌-◌, ◌≤◌, List, [], ◌∷◌, ◌++◌, length, replicate, ltb, leb, eqb, Option, None, Some, option_map, Result, Ok, Err}
use Rattle.records.specs.Pick.{pick}

module _ {A : Type 0} where
  -- the list without what stands at i
  abbrev pub remove_at : ℕ → List A → List A
  remove_at n [] = []
  remove_at zero (x ∷ xs) = xs
  remove_at (suc n) (x ∷ xs) = x ∷ remove_at n xs

  -- the list with a put in at i, before what stood there
  abbrev pub insert_at : ℕ → A → List A → List A
  insert_at zero a xs = a ∷ xs
  insert_at (suc n) a [] = a ∷ []
  insert_at (suc n) a (x ∷ xs) = x ∷ insert_at n a xs

  -- f at each record, from the last to the first, starting with z
  abbrev pub fold : {B : Type 0} → (A → B → B) → B → List A → B
  fold f z [] = z
  fold f z (x ∷ xs) = f x (fold f z xs)

  -- every record has the property
  abbrev pub All : (A → Type 0) → List A → Type 0
  All P [] = Unit {0}
  All P (x ∷ xs) = P x × All P xs

  -- the records, and a blank in each free place
  abbrev pub pad_to : ℕ → A → List A → List A
  pad_to room blank xs = xs ++ replicate (room - length xs) blank

module _ {A : Type 0} (key : A → ℕ) where
  -- how many records stand before the first whose key is not below k
  abbrev pub place_of : ℕ → List A → ℕ
  place_of k [] = 0
  place_of k (y ∷ ys) = pick (ltb (key y) k) (suc (place_of k ys)) 0

  -- where the first record with the key k stands
  abbrev pub find_by : ℕ → List A → Option ℕ
  find_by k [] = None
  find_by k (y ∷ ys) = pick (eqb (key y) k) (Some 0) (option_map suc (find_by k ys))

  -- the first record with the key k
  abbrev pub lookup : ℕ → List A → Option A
  lookup k [] = None
  lookup k (y ∷ ys) = pick (eqb (key y) k) (Some y) (lookup k ys)

  -- the list with x under its key: in the place of the record with that key, or else before the first with a larger one
  abbrev pub insert_by : A → List A → List A
  insert_by x [] = x ∷ []
  insert_by x (y ∷ ys) = pick (ltb (key y) (key x)) (y ∷ insert_by x ys) (pick (eqb (key y) (key x)) (x ∷ ys) (x ∷ y ∷ ys))

  -- the list without the first record with the key k
  abbrev pub remove_by : ℕ → List A → List A
  remove_by k [] = []
  remove_by k (y ∷ ys) = pick (eqb (key y) k) ys (y ∷ remove_by k ys)

  -- the keys rise strictly, from at least lo on
  abbrev pub Rising : ℕ → List A → Type 0
  Rising lo [] = Unit {0}
  Rising lo (y ∷ ys) = (lo ≤ key y) × Rising (suc (key y)) ys

-- where a key stands among rows, or where it would
abbrev pub spot_at : Option ℕ → ℕ → Result ℕ ℕ
spot_at None k = Err k
spot_at (Some i) k = Ok i

-- what insert answers where there would be n records
abbrev pub inserted_of : ℕ → ℕ → Option ℕ
inserted_of room n = pick (leb n room) (Some n) None
