-- WHAT A RUN COMES TO: the records that it answers, what they do one after the other, the bytes consumed, the status; and that it has one outcome.
-- Definitions first, then the claims. proofs/Claims proves them; what the run has to do with the ledger is in specs/Histories.
use Rattle.std.specs.Prelude.{ℕ, zero, suc, ◌+◌, ◌≤◌, ◌<◌, ◌≡◌, List, [], ◌∷◌, ◌++◌, length, take, drop, ltb}
use Rattle.records.specs.Pick.{pick}
use Rattle.framing.specs.Reader.{stands_at}
use Rattle.framing.specs.declared.Standing.{Standing}
use Rattle.framing.specs.declared.Standing.TheVariants.{Record, Unknown, Cut, End}
use Rattle.answers.specs.Items.{items_bytes, end_bytes}
use Rattle.exchange.specs.World.{World, fresh_world}
use Rattle.exchange.specs.Answering.{overfull}
use Rattle.runs.specs.Run.{step_by, body_in, run_bytes, Ran}

-- ---- a record that was read: its kind and its body

pub record Read : Type 0 where
  pub kind : ℕ
  pub body : List ℕ

-- its answers, and the world after it
abbrev pub answers_to : World → Read → List ℕ
answers_to w r = items_bytes (step_by w r.kind r.body).items

abbrev pub world_by : World → Read → World
world_by w r = (step_by w r.kind r.body).world

-- ---- several, one after the other

-- as they lie in a trace, and how long they are
abbrev pub bytes_of : List Read → List ℕ
bytes_of [] = []
bytes_of (r ∷ rs) = r.kind ∷ r.body ++ bytes_of rs

abbrev pub size_of : List Read → ℕ
size_of [] = 0
size_of (r ∷ rs) = 1 + length r.body + size_of rs

-- the answers of all of them, each in the world that those before it left, and the world after the last
abbrev pub answers_over : World → List Read → List ℕ
answers_over w [] = []
answers_over w (r ∷ rs) = answers_to w r ++ answers_over (world_by w r) rs

abbrev pub world_over : World → List Read → World
world_over w [] = w
world_over w (r ∷ rs) = world_over (world_by w r) rs

-- ---- the records that a run answers, and the status that it ends with

pub record Went : Type 0 where
  pub reads : List Read
  pub status : ℕ

abbrev pub stops : ℕ → Went
stops status = record { reads = []; status = status }

abbrev pub reading : Read → Went → Went
reading r g = record { reads = r ∷ g.reads; status = g.status }

-- o bytes are written of cap, at bytes consumed, w is the world; rest is the run from the next record on
abbrev pub read_by : (ℕ → ℕ → World → Went) → ℕ → ℕ → ℕ → World → Read → Went
read_by rest cap o next w r =
    pick (overfull cap o (answers_to w r)) (stops 15) (reading r (rest (o + length (answers_to w r)) next (world_by w r)))

abbrev pub went_by : (ℕ → ℕ → World → Went) → List ℕ → ℕ → ℕ → World → Standing → Went
went_by rest s cap o w End = stops 0
went_by rest s cap o w Unknown = stops 12
went_by rest s cap o w Cut = stops 13
went_by rest s cap o w (Record kind start next) = read_by rest cap o next w (record { kind = kind; body = body_in s start next })

abbrev pub went_from : ℕ → List ℕ → ℕ → ℕ → ℕ → World → Went
went_from zero s cap o at w = stops 0
went_from (suc n) s cap o at w = went_by (went_from n s cap) s cap o w (stands_at s at)

-- of the trace s into an output of cap bytes
unfoldable pub went_over : List ℕ → ℕ → Went
went_over s cap = pick (ltb 65536 (length s)) (stops 16) (went_from (suc (length s)) s cap 0 0 fresh_world)

abbrev pub reads_of : List ℕ → ℕ → List Read
reads_of s cap = (went_over s cap).reads

abbrev pub status_of : List ℕ → ℕ → ℕ
status_of s cap = (went_over s cap).status

-- ---- the claims: for every trace, and every output

-- 1. THE RUN IS its records' answers, each applied in turn, and the end: with its status, and with the length of all records answered, refused ones too.
-- An output under six bytes gets nothing.
abbrev pub RunIs : Type 0
RunIs =
    (s : List ℕ) (cap : ℕ) → 6 ≤ cap
    → run_bytes s cap ≡ answers_over fresh_world (reads_of s cap) ++ end_bytes (status_of s cap) (size_of (reads_of s cap))

abbrev pub NothingUnderSix : Type 0
NothingUnderSix = (s : List ℕ) (cap : ℕ) → cap < 6 → run_bytes s cap ≡ []

-- 2. THE RECORDS ARE THE TRACE'S: its first bytes, as many as are consumed; all of it where the status is 0.
abbrev pub ReadsAreTheTrace : Type 0
ReadsAreTheTrace = (s : List ℕ) (cap : ℕ) → bytes_of (reads_of s cap) ≡ take (size_of (reads_of s cap)) s

abbrev pub ReadToTheEnd : Type 0
ReadToTheEnd = (s : List ℕ) (cap : ℕ) → status_of s cap ≡ 0 → bytes_of (reads_of s cap) ≡ s

-- 3. WHAT FOLLOWS CHANGES NO ANSWER: the answers of some records and then others are theirs, and then the others' in the world that they left; whatever
-- follows a trace p, its records are answered first, and with the same bytes.
abbrev pub AnswersOfBoth : Type 0
AnswersOfBoth = (w : World) (xs ys : List Read) → answers_over w (xs ++ ys) ≡ answers_over w xs ++ answers_over (world_over w xs) ys

pub record Begins {A : Type 0} (xs ys : List A) : Type 0 where
  pub more : List A
  pub whole : ys ≡ xs ++ more

abbrev pub PrefixReads : Type 0
PrefixReads = (p q : List ℕ) (cap : ℕ) → length (p ++ q) ≤ 65536 → Begins (reads_of p cap) (reads_of (p ++ q) cap)

abbrev pub PrefixAnswers : Type 0
PrefixAnswers =
    (p q : List ℕ) (cap : ℕ) → length (p ++ q) ≤ 65536
    → Begins (answers_over fresh_world (reads_of p cap)) (answers_over fresh_world (reads_of (p ++ q) cap))

-- 4. ONE OUTCOME (Ran is the contract of `run`, which asks nothing of its trace and output): any two are equal; bytes past the returned length stay as they
-- came; there is one for every trace and output; it is at least the six bytes of the end, and at most the output.
abbrev pub OneOutcome : Type 0
OneOutcome = (s d₀ d' d'' : List ℕ) (n m : ℕ) → Ran s d₀ n d' → Ran s d₀ m d'' → (n ≡ m) × (d' ≡ d'')

abbrev pub PastStays : Type 0
PastStays = (s d₀ d' : List ℕ) (n : ℕ) → Ran s d₀ n d' → drop n d' ≡ drop n d₀

abbrev pub AlwaysEnds : Type 0
AlwaysEnds =
    (s d₀ : List ℕ) → Ran s d₀ (length (run_bytes s (length d₀))) (run_bytes s (length d₀) ++ drop (length (run_bytes s (length d₀))) d₀)

abbrev pub AtLeastTheEnd : Type 0
AtLeastTheEnd = (s d₀ d' : List ℕ) (n : ℕ) → Ran s d₀ n d' → 6 ≤ length d₀ → 6 ≤ n

abbrev pub AtMostTheOutput : Type 0
AtMostTheOutput = (s d₀ d' : List ℕ) (n : ℕ) → Ran s d₀ n d' → (n ≤ length d₀) × (length d' ≡ length d₀)
