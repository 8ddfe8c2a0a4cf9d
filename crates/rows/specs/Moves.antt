-- The four moves: every change that a call makes to a table of sends. Every record has its turn (each), the first with a test has it (at_first), one
-- enters under its id (insert_by, in Lists), or all go ([]). A turn, a `Turn` of src/lib.rt, says what becomes of one record; the move says what
-- becomes of the table and, with the id and the handles of the record in it, what is told.
use Rattle.std.specs.Prelude.{ℕ, suc, ◌+◌, ◌≡◌, Bool, true, false, List, [], ◌∷◌, ◌++◌, set, eqb, Option, None, Some, option_map}
use Rattle.records.specs.Pick.{pick, bit}
use Rattle.rows.specs.Lists.{remove_at}
use Rattle.records.specs.declared.Verdict.{Verdict}
use Rattle.records.specs.declared.Entry.{Entry}
use Rattle.records.specs.declared.Action.{Action}
use Rattle.records.specs.declared.Action.TheVariants.{HandedOff, Settled}
use Rattle.rows.specs.declared.Turn.{Turn}
use Rattle.rows.specs.declared.Turn.TheVariants.{Keeps, HandsOff, Settles}

abbrev pub kept : {A : Type 0} → Turn A → List A
kept (Keeps y) = y ∷ []
kept (HandsOff y) = y ∷ []
kept (Settles again v h) = []

-- what is told of a settled send, its handoff again first or not
abbrev pub settling : Entry → Bool → Verdict → Option ℕ → List Action
settling e again v h = pick again (HandedOff e.id e.waiter ∷ Settled e v h ∷ []) (Settled e v h ∷ [])

abbrev pub told : {A : Type 0} → Entry → Turn A → List Action
told e (Keeps y) = []
told e (HandsOff y) = HandedOff e.id e.waiter ∷ []
told e (Settles again v h) = settling e again v h

module _ {A : Type 0} where
  -- every record has its turn
  abbrev pub each : (A → Turn A) → List A → List A
  each f [] = []
  each f (x ∷ xs) = kept (f x) ++ each f xs

  -- the first record with the test has its turn
  abbrev pub at_first : (A → Bool) → (A → Turn A) → List A → List A
  at_first q f [] = []
  at_first q f (x ∷ xs) = pick (q x) (kept (f x) ++ xs) (x ∷ at_first q f xs)

  -- that record
  abbrev pub first_of : (A → Bool) → List A → Option A
  first_of q [] = None
  first_of q (x ∷ xs) = pick (q x) (Some x) (first_of q xs)

  -- where it stands
  abbrev pub first_at : (A → Bool) → List A → Option ℕ
  first_at q [] = None
  first_at q (x ∷ xs) = pick (q x) (Some 0) (option_map suc (first_at q xs))

  -- the same as an answer, the first record standing at place i
  abbrev pub place_from : (A → Bool) → ℕ → List A → Option ℕ
  place_from q i [] = None
  place_from q i (x ∷ xs) = pick (q x) (Some i) (place_from q (suc i) xs)

  -- what becomes of the list where the record at i has that turn
  abbrev pub placed : Turn A → ℕ → List A → List A
  placed (Keeps y) i xs = set xs i y
  placed (HandsOff y) i xs = set xs i y
  placed (Settles again v h) i xs = remove_at i xs

  -- whether there is one
  abbrev pub any_of : (A → Bool) → List A → Bool
  any_of q [] = false
  any_of q (x ∷ xs) = pick (q x) true (any_of q xs)

  -- how many there are
  abbrev pub count : (A → Bool) → List A → ℕ
  count p [] = 0
  count p (x ∷ xs) = bit (p x) + count p xs

-- what the turns tell, in the order of the records
module _ {A : Type 0} (entry : A → Entry) where
  abbrev pub each_told : (A → Turn A) → List A → List Action
  each_told f [] = []
  each_told f (x ∷ xs) = told (entry x) (f x) ++ each_told f xs

  abbrev pub at_first_told : (A → Bool) → (A → Turn A) → List A → List Action
  at_first_told q f [] = []
  at_first_told q f (x ∷ xs) = pick (q x) (told (entry x) (f x)) (at_first_told q f xs)

  -- the id that a send is kept under, and the test for it
  abbrev pub id_of : A → ℕ
  id_of x = (entry x).id

  abbrev pub has_id : ℕ → A → Bool
  has_id i x = eqb (id_of x) i

-- what a rule owes: the record that stays has the entry that it had
abbrev pub Same : {A : Type 0} → (A → Entry) → A → Turn A → Type 0
Same entry x (Keeps y) = entry y ≡ entry x
Same entry x (HandsOff y) = entry y ≡ entry x
Same entry x (Settles again v h) = Unit {0}

-- the sends that the actions settle
abbrev pub settled_of : List Action → List Entry
settled_of [] = []
settled_of (HandedOff i w ∷ l) = settled_of l
settled_of (Settled e v h ∷ l) = e ∷ settled_of l
