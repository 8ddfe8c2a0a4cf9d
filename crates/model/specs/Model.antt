-- The send tables as lists: what they hold, what a call makes of them, and how they lie in words.
use Rattle.std.specs.Prelude.{ℕ, ◌≡◌, List, [], length}
use Rattle.rows.specs.Tables.{live, words_for, Held, Holds}
use Rattle.tables.specs.Layouts.{unicast_table, unrouted_table, destination_table, broadcast_table}
use Rattle.actions.specs.Told.{Told}
use Rattle.model.specs.Types.{Unicast, Unrouted, Destination, Broadcast, Action, Answer, Denied, Accepted, Refusal, Counts, Did, Sends, Answered}

-- the next id, the sends by rising id, and the held destinations by rising address
pub record Model : Type 0 where
  pub next : ℕ
  pub unicasts : List Unicast
  pub unrouted : List Unrouted
  pub held : List Destination
  pub broadcasts : List Broadcast

-- what a call makes of the tables, what it answers, and what the driver must do
pub record Effect : Type 0 where
  pub model : Model
  pub answer : Answer
  pub actions : List Action

-- fresh tables, whose first id is given
abbrev pub fresh_of : ℕ → Model
fresh_of first = record { next = first; unicasts = []; unrouted = []; held = []; broadcasts = [] }

-- the same with another table
abbrev pub with_unicasts : Model → List Unicast → Model
with_unicasts m us = record { next = m.next; unicasts = us; unrouted = m.unrouted; held = m.held; broadcasts = m.broadcasts }

abbrev pub with_unrouted : Model → List Unrouted → List Destination → Model
with_unrouted m us hs = record { next = m.next; unicasts = m.unicasts; unrouted = us; held = hs; broadcasts = m.broadcasts }

abbrev pub with_broadcasts : Model → List Broadcast → Model
with_broadcasts m bs = record { next = m.next; unicasts = m.unicasts; unrouted = m.unrouted; held = m.held; broadcasts = bs }

-- a refused call: nothing is altered and nothing is to be done
abbrev pub denied : Model → Refusal → Effect
denied m x = record { model = m; answer = Denied x; actions = [] }

-- an accepted one that has nothing else to say
abbrev pub done : Model → List Action → Effect
done m acts = record { model = m; answer = Accepted; actions = acts }

-- one that changes nothing but its answer
abbrev pub answers : Model → Answer → Effect
answers m a = record { model = m; answer = a; actions = [] }

-- ---- the tables in words

-- what lent words and counts hold
abbrev pub lent_model : Counts → List ℕ → List ℕ → List ℕ → List ℕ → Model
lent_model c ws rs ds bs =
    record {
      next = c.next_id;
      unicasts = live unicast_table ws c.unicasts;
      unrouted = live unrouted_table rs c.unrouted;
      held = live destination_table ds c.held;
      broadcasts = live broadcast_table bs c.broadcasts;
    }

-- they hold four tables: the premise of a call on lent tables
pub record SoundTables (c : Counts) (ws rs ds bs : List ℕ) : Type 0 where
  pub unicasts : Held unicast_table ws c.unicasts
  pub unrouted : Held unrouted_table rs c.unrouted
  pub held : Held destination_table ds c.held
  pub broadcasts : Held broadcast_table bs c.broadcasts

-- what a call on lent tables ensures: each table holds what the effect says, the answer is the effect's, and its actions are told from the buffer's start on
pub record Does (e : Effect) (buf ws' rs' ds' bs' buf' : List ℕ) (r : Did) : Type 0 where
  pub next : r.counts.next_id ≡ e.model.next
  pub unicasts : Holds unicast_table ws' r.counts.unicasts e.model.unicasts
  pub unrouted : Holds unrouted_table rs' r.counts.unrouted e.model.unrouted
  pub held : Holds destination_table ds' r.counts.held e.model.held
  pub broadcasts : Holds broadcast_table bs' r.counts.broadcasts e.model.broadcasts
  pub answer : r.answer ≡ e.answer
  pub tells : Told 0 e.actions buf buf' r.told

-- what tables by value hold, and the tables by value that hold it
abbrev pub model_of : Sends → Model
model_of s = lent_model s.counts s.unicasts s.unrouted s.held s.broadcasts

abbrev pub counts_of : Model → Counts
counts_of m =
    record {
      next_id = m.next;
      unicasts = length m.unicasts;
      unrouted = length m.unrouted;
      held = length m.held;
      broadcasts = length m.broadcasts;
    }

abbrev pub sends_of : Model → Sends
sends_of m =
    record {
      counts = counts_of m;
      unicasts = words_for unicast_table m.unicasts;
      unrouted = words_for unrouted_table m.unrouted;
      held = words_for destination_table m.held;
      broadcasts = words_for broadcast_table m.broadcasts;
    }

-- what a call by value answers
abbrev pub answered_of : Effect → Answered
answered_of e = record { sends = sends_of e.model; answer = e.answer; told = length e.actions }
