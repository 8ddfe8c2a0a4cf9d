-- What each call on the two lent tables does: its answer, and each table after it.
use Rattle.std.specs.Prelude.{ℕ, ◌-◌, ◌≡◌, List, [], Option, None, Some}
use Rattle.records.specs.Records.{unrouted_id, unrouted_entry, destination_address}
use Rattle.rows.specs.Lists.{insert_by, remove_by}
use Rattle.rows.specs.Tables.{live, Holds}
use Rattle.tables.specs.Layouts.{unrouted_table, destination_table}
use Rattle.actions.specs.Calls.{Swept}
use Rattle.unrouted.specs.declared.Failed.{Failed}
use Rattle.unrouted.specs.Types.{Unrouted, Bound, Retry}
use Rattle.unrouted.specs.Rules.{sweep_turn, goes_to, drop_first, take_of, holding, enqueue_of, retry_of, spent_by}

-- the tables after an enqueue, by its answer: refused, every word stays
abbrev pub EnqueuedTables : ℕ → Unrouted → List ℕ → ℕ → List ℕ → ℕ → List ℕ → List ℕ → Option (ℕ × ℕ) → Type 0
EnqueuedTables attempts u ws n ds k ws' ds' None = (ws' ≡ ws) × (ds' ≡ ds)
EnqueuedTables attempts u ws n ds k ws' ds' (Some (n', k')) =
    Holds unrouted_table ws' n' (insert_by unrouted_id u (live unrouted_table ws n))
    × Holds destination_table ds' k' (holding attempts u.destination (live destination_table ds k))

pub record Enqueued (attempts : ℕ) (u : Unrouted) (ws : List ℕ) (n : ℕ) (ds : List ℕ) (k : ℕ) (ws' ds' : List ℕ) (r : Option (ℕ × ℕ)) : Type 0 where
  pub answer : r ≡ enqueue_of attempts u (live unrouted_table ws n) (live destination_table ds k)
  pub tables : EnqueuedTables attempts u ws n ds k ws' ds' r

pub record Retried (d : ℕ) (ws : List ℕ) (n : ℕ) (ds : List ℕ) (k : ℕ) (ds' : List ℕ) (r : Retry) : Type 0 where
  pub answer : r ≡ retry_of d (live unrouted_table ws n) (live destination_table ds k)
  pub table : Holds destination_table ds' k (spent_by r d (live destination_table ds k))

-- the destination is dropped, and its sends are settled
pub record FailedAll (d : ℕ) (ws : List ℕ) (n : ℕ) (ds : List ℕ) (k : ℕ) (buf : List ℕ) (m : ℕ) (ws' ds' buf' : List ℕ) (r : Failed) : Type 0 where
  pub sends : Swept unrouted_table unrouted_entry (sweep_turn (Bound d)) ws n buf m ws' r.sends buf' r.told
  pub held : Holds destination_table ds' r.held (remove_by destination_address d (live destination_table ds k))

-- the table after a take, by its answer
abbrev pub TakenTable : ℕ → List ℕ → ℕ → List ℕ → Option Unrouted → Type 0
TakenTable d ws n ws' None = ws' ≡ ws
TakenTable d ws n ws' (Some u) = Holds unrouted_table ws' (n - 1) (drop_first (goes_to d) (live unrouted_table ws n))

pub record Taken (d : ℕ) (ws : List ℕ) (n : ℕ) (ws' : List ℕ) (r : Option Unrouted) : Type 0 where
  pub answer : r ≡ take_of d (live unrouted_table ws n)
  pub table : TakenTable d ws n ws' r

-- both tables hold nothing
pub record Abandoned (ws' ds' : List ℕ) : Type 0 where
  pub sends : Holds unrouted_table ws' 0 []
  pub held : Holds destination_table ds' 0 []
