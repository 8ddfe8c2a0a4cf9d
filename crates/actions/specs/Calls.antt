-- What a call on one table of sends does: every record has its turn, the first with a test has it, or the one at a place; and what is told. Over any kind
-- of table whose records have an entry.
use Rattle.std.specs.Prelude.{ℕ, Bool, List}
use Rattle.records.specs.declared.Entry.{Entry}
use Rattle.rows.specs.Tables.{Table, live, Holds}
use Rattle.rows.specs.Moves.{told, each, at_first, placed, each_told, at_first_told}
use Rattle.rows.specs.declared.Turn.{Turn}
use Rattle.actions.specs.Told.{Told}

module _ {A : Type 0} (t : Table A) (entry : A → Entry) where
  -- every record has its turn
  pub record Swept (f : A → Turn A) (ws : List ℕ) (n : ℕ) (buf : List ℕ) (m : ℕ) (ws' : List ℕ) (n' : ℕ) (buf' : List ℕ) (m' : ℕ) : Type 0 where
    pub table : Holds t ws' n' (each f (live t ws n))
    pub tells : Told m (each_told entry f (live t ws n)) buf buf' m'

  -- the first record with the test has its turn
  pub record Turned (q : A → Bool) (f : A → Turn A) (ws : List ℕ) (n : ℕ) (buf : List ℕ) (m : ℕ) (ws' : List ℕ) (n' : ℕ) (buf' : List ℕ) (m' : ℕ) : Type 0 where
    pub table : Holds t ws' n' (at_first q f (live t ws n))
    pub tells : Told m (at_first_told entry q f (live t ws n)) buf buf' m'

  -- the record at place i, which is u, has this turn
  pub record Played (x : Turn A) (i : ℕ) (u : A) (ws : List ℕ) (n : ℕ) (buf : List ℕ) (m : ℕ) (ws' : List ℕ) (n' : ℕ) (buf' : List ℕ) (m' : ℕ) : Type 0 where
    pub table : Holds t ws' n' (placed x i (live t ws n))
    pub tells : Told m (told (entry u) x) buf buf' m'
