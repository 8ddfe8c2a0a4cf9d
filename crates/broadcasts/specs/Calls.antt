-- What each call on the lent table does: its answer, and the table and the buffer after it.
use Rattle.tables.specs.declared.Counts.{Counts}
use Rattle.std.specs.Prelude.{ℕ, ◌+◌, ◌≤◌, ◌<◌, ◌≡◌, List, get_or, Option, Result, Ok, Err}
use Rattle.records.specs.Records.{blank_broadcast, broadcast_id, broadcast_entry}
use Rattle.rows.specs.Lists.{lookup}
use Rattle.rows.specs.Tables.{rows_of, live, Holds}
use Rattle.rows.specs.Moves.{at_first, has_id}
use Rattle.rows.specs.declared.Turn.{Turn}
use Rattle.rows.specs.Moves.{Same}
use Rattle.tables.specs.Layouts.{broadcast_table}
use Rattle.actions.specs.Calls.{Turned}
use Rattle.casting.specs.Types.{Broadcast, Refusal}
use Rattle.casting.specs.Rules.{refusal_of, lent_of, dequeue_turn}

-- what a turn at place i asks: the record there is u, the one that stays has its entry, and two actions can be told
pub record Plays (ws : List ℕ) (n m i : ℕ) (u : Broadcast) (x : Turn Broadcast) : Type 0 where
  pub there : i < n
  pub is : u ≡ get_or (rows_of broadcast_table ws) i blank_broadcast
  pub same : Same broadcast_entry u x
  pub space : m + 2 ≤ 112

-- after a call on the broadcast with that id, by its answer: refused, every word stays; else it has its turn
abbrev pub After : ℕ → (Broadcast → Turn Broadcast) → List ℕ → ℕ → List ℕ → ℕ → List ℕ → List ℕ → Result Counts Refusal → Type 0
After id f ws n buf m ws' buf' (Err x) = (ws' ≡ ws) × (buf' ≡ buf)
After id f ws n buf m ws' buf' (Ok c) = Turned broadcast_table broadcast_entry (has_id broadcast_entry id) f ws n buf m ws' c.sends buf' c.told

-- a call on the broadcast with that id: refused exactly where `bar` says so
pub record Answered (id : ℕ) (bar : Option Broadcast → Option Refusal) (f : Broadcast → Turn Broadcast) (ws : List ℕ) (n : ℕ) (buf : List ℕ) (m : ℕ) (ws' buf' : List ℕ) (r : Result Counts Refusal) : Type 0 where
  pub answer : refusal_of r ≡ bar (lookup broadcast_id id (live broadcast_table ws n))
  pub table : After id f ws n buf m ws' buf' r

-- the broadcast with that id is lent to the radio
pub record Dequeued (id : ℕ) (ws : List ℕ) (n : ℕ) (ws' : List ℕ) (r : Option ℕ) : Type 0 where
  pub answer : r ≡ lent_of (lookup broadcast_id id (live broadcast_table ws n))
  pub table : Holds broadcast_table ws' n (at_first (has_id broadcast_entry id) dequeue_turn (live broadcast_table ws n))
