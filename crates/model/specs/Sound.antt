-- The tables as calls from fresh ones leave them. Every call keeps this; it is the one premise of a call by value.
use Rattle.std.specs.Prelude.{ℕ, ◌+◌, ◌≤◌, ◌≡◌, true, List, length}
use Rattle.records.specs.Limits.{no_id, unicast_room, unrouted_room, destination_room, broadcast_room}
use Rattle.records.specs.Records.{unicast_id, unrouted_id, broadcast_id, destination_address, unicast_entry, unrouted_entry, broadcast_entry}
use Rattle.rows.specs.Lists.{All, Rising}
use Rattle.rows.specs.Moves.{count, has_id}
use Rattle.casting.specs.Claims.{Sane}
use Rattle.unrouted.specs.Rules.{is_held}
use Rattle.actions.specs.Told.{Told}
use Rattle.model.specs.Types.{Unrouted, Sends, Answered}
use Rattle.model.specs.Model.{Model, Effect, SoundTables, model_of}

-- the records of a table rise in their key, and there is room for them
pub record Kept {A : Type 0} (key : A → ℕ) (room : ℕ) (xs : List A) : Type 0 where
  pub rising : Rising key 0 xs
  pub within : length xs ≤ room

-- how many live sends have that id
abbrev pub live_with : ℕ → Model → ℕ
live_with i m = count (has_id unicast_entry i) m.unicasts + (count (has_id unrouted_entry i) m.unrouted + count (has_id broadcast_entry i) m.broadcasts)

pub record SoundModel (m : Model) : Type 0 where
  pub unicasts : Kept unicast_id unicast_room m.unicasts
  pub unrouted : Kept unrouted_id unrouted_room m.unrouted
  pub held : Kept destination_address destination_room m.held
  pub broadcasts : Kept broadcast_id broadcast_room m.broadcasts
  -- the next id is not past the one never given; no live send has it or a later one; and an id is live in one table only
  pub last : m.next ≤ no_id
  pub below : (i : ℕ) → m.next ≤ i → live_with i m ≡ 0
  pub once : (i : ℕ) → live_with i m ≤ 1
  -- the destination of an unrouted send is held
  pub waiting : All (λ (u : Unrouted). is_held u.destination m.held ≡ true) m.unrouted
  -- a broadcast has what its verdict will ask for
  pub sane : All Sane m.broadcasts

-- tables by value that hold such
pub record Sound (s : Sends) : Type 0 where
  pub tables : SoundTables s.counts s.unicasts s.unrouted s.held s.broadcasts
  pub model : SoundModel (model_of s)

-- beside its answer a call by value leaves: the effect's actions told from the buffer's start on, and sound tables
pub record Leaving (e : Effect) (buf buf' : List ℕ) (r : Answered) : Type 0 where
  pub tells : Told 0 e.actions buf buf' r.told
  pub sound : Sound r.sends
