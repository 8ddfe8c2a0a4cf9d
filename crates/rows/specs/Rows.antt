-- Rows of words: row i is the `width` words from i * width on. How a list of records lies in words, and what moving rows does to them.
use Rattle.std.specs.Prelude.{ℕ, zero, suc, ◌+◌, ◌-◌, ◌*◌, ◌≤◌, ◌<◌, List, [], ◌∷◌, ◌++◌, length, take, drop, get_or, replicate, ◌≡◌, leb, Option, None, Some, Result, Ok, Err}
use Rattle.std.proofs.lemmas.List.Edits.{sets}
use Rattle.records.specs.Pick.{pick}
use Rattle.rows.specs.declared.Slot.{Slot}
use Rattle.rows.specs.declared.Slot.TheVariants.{Shut, Over, New}
use Rattle.rows.specs.Lists.{place_of, find_by, spot_at, Rising}

-- the first n rows of the words, each read by `read`
abbrev pub rows_from : {A : Type 0} → ℕ → (List ℕ → A) → ℕ → List ℕ → List A
rows_from width read zero ws = []
rows_from width read (suc n) ws = read (take width ws) ∷ rows_from width read n (drop width ws)

-- the words of the records, one after the other
abbrev pub flat : {A : Type 0} → (A → List ℕ) → List A → List ℕ
flat write [] = []
flat write (x ∷ xs) = write x ++ flat write xs

-- a row read as its own words, and its key
abbrev pub itself : List ℕ → List ℕ
itself v = v

abbrev pub first_word : List ℕ → ℕ
first_word v = get_or v 0 0

-- where the row with that key stands, or would
abbrev pub spot_in : ℕ → List (List ℕ) → Result ℕ ℕ
spot_in key rows = spot_at (find_by first_word key rows) (place_of first_word key rows)

abbrev pub place_of_spot : Result ℕ ℕ → Option ℕ
place_of_spot (Ok i) = Some i
place_of_spot (Err i) = None

-- what a search by key asks: n rows are there, and their keys rise
pub record Searched (width n : ℕ) (ws : List ℕ) : Type 0 where
  pub wide : 0 < width
  pub there : n * width ≤ length ws
  pub rising : Rising first_word 0 (rows_from width itself n ws)

module _ {A : Type 0} where
  -- `count` words from `from` on are copied to `to`
  abbrev pub moved : ℕ → ℕ → ℕ → List A → List A
  moved to from count ws = sets ws to (take count (drop from ws))

-- the rows behind row i of n move down by one, and the last place is cleared
abbrev pub closed : ℕ → ℕ → ℕ → List ℕ → List ℕ
closed width n i ws =
    sets (moved (i * width) (i * width + width) ((n - 1 - i) * width) ws) (i * width + (n - 1 - i) * width) (replicate width 0)

-- the rows from row i of n on move up by one
abbrev pub opened : ℕ → ℕ → ℕ → List ℕ → List ℕ
opened width n i ws = moved (i * width + width) (i * width) ((n - i) * width) ws

-- a row is written over the one with its key, or at a new place if one of `room` is free
abbrev pub slot_of : ℕ → ℕ → Result ℕ ℕ → Slot
slot_of room n (Ok i) = Over i
slot_of room n (Err i) = pick (leb room n) Shut (New i)

abbrev pub slot_words : ℕ → ℕ → List ℕ → Slot → List ℕ
slot_words width n ws Shut = ws
slot_words width n ws (Over i) = ws
slot_words width n ws (New i) = opened width n i ws

pub record Slotted (width room n key : ℕ) (ws ws' : List ℕ) (r : Slot) : Type 0 where
  pub answer : r ≡ slot_of room n (spot_in key (rows_from width itself n ws))
  pub words : ws' ≡ slot_words width n ws r

-- the row with the key is taken out, if there is one
abbrev pub left_count : ℕ → Result ℕ ℕ → ℕ
left_count n (Ok i) = n - 1
left_count n (Err i) = n

abbrev pub left_words : ℕ → ℕ → List ℕ → Result ℕ ℕ → List ℕ
left_words width n ws (Ok i) = closed width n i ws
left_words width n ws (Err i) = ws

pub record Unslotted (width n key : ℕ) (ws ws' : List ℕ) (r : ℕ) : Type 0 where
  pub answer : r ≡ left_count n (spot_in key (rows_from width itself n ws))
  pub words : ws' ≡ left_words width n ws (spot_in key (rows_from width itself n ws))
