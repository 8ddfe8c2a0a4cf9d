-- The small parts that the calls on lent tables are put together from, and what an abandon lists.
use Rattle.std.specs.Prelude.{ℕ, ◌+◌, ◌*◌, ◌≡◌, List, [], ◌∷◌, length, Option, None}
use Rattle.std.proofs.lemmas.List.Edits.{sets}
use Rattle.records.specs.Records.{broadcast_id, unicast_entry}
use Rattle.rows.specs.Rows.{flat}
use Rattle.rows.specs.Lists.{lookup}
use Rattle.rows.specs.Tables.{Holds}
use Rattle.rows.specs.Moves.{first_of, has_id}
use Rattle.tables.specs.Layouts.{unicast_table, unrouted_table, destination_table, broadcast_table}
use Rattle.sending.specs.Lists.{cancel_bar}
use Rattle.sending.specs.Rules as uni
use Rattle.unrouted.specs.Rules as unr
use Rattle.casting.specs.Rules as bro
use Rattle.doing.specs.Types.{Unicast, Unrouted, Broadcast, Settings, Entry, Refusal, NewUnicast, NewUnrouted, NewBroadcast, Answer, Denied, Issued, Counts, Did, Abandoned}
use Rattle.model.specs.Model.{Model, Effect}
use Rattle.model.specs.Calls.{unless, turn_unicast, cast_bar, cancel_broadcast, abandoned}

abbrev pub quietly : Counts → Answer → Did
quietly c a = record { counts = c; answer = a; told = 0 }

abbrev pub denied_by : Counts → Refusal → Did
denied_by c x = quietly c (Denied x)

abbrev pub with_unicast_count : Counts → ℕ → Counts
with_unicast_count c n = record { next_id = c.next_id; unicasts = n; unrouted = c.unrouted; held = c.held; broadcasts = c.broadcasts }

abbrev pub with_broadcast_count : Counts → ℕ → Counts
with_broadcast_count c n = record { next_id = c.next_id; unicasts = c.unicasts; unrouted = c.unrouted; held = c.held; broadcasts = n }

abbrev pub drawn_by : Counts → ℕ → ℕ → ℕ → ℕ → Did
drawn_by c us rs hs bs =
    quietly (record { next_id = c.next_id + 1; unicasts = us; unrouted = rs; held = hs; broadcasts = bs }) (Issued c.next_id)

-- ---- a send as it is admitted

abbrev pub unicast_as : ℕ → NewUnicast → Option ℕ → Settings → ℕ → Unicast
unicast_as id u copy s now = uni.admitted_of id u.frame u.waiter u.priority u.confirm u.next_hop u.poll_address copy s now None

abbrev pub unrouted_as : ℕ → NewUnrouted → Settings → ℕ → Unrouted
unrouted_as id u s now = unr.admitted_of id u.frame u.waiter u.priority u.confirm u.destination now s.handoff_timeout

abbrev pub broadcast_as : ℕ → NewBroadcast → Settings → ℕ → Broadcast
broadcast_as id u s now = bro.admitted_of id u.frame u.waiter u.priority u.schedule now s.handoff_timeout

-- ---- the parts of a cancel

abbrev pub cancel_in : Model → ℕ → Effect
cancel_in m id = unless m (cancel_bar (first_of (has_id unicast_entry id) m.unicasts)) (turn_unicast m (has_id unicast_entry id) uni.cancel_turn)

abbrev pub cancel_cast : Model → ℕ → Effect
cancel_cast m id = unless m (cast_bar id m.unicasts (lookup broadcast_id id m.broadcasts)) (cancel_broadcast m id)

-- ---- the list of an abandon

-- a send's id and its waiter
abbrev pub entry_words : Entry → List ℕ
entry_words e = e.id ∷ e.waiter ∷ []

-- the sends are listed from place `at` on, and r is the next place
pub record Listed (at : ℕ) (es : List Entry) (ws ws' : List ℕ) (r : ℕ) : Type 0 where
  pub words : ws' ≡ sets ws (at * 2) (flat entry_words es)
  pub next : r ≡ at + length es

-- every table is emptied, the next id stays, and the live sends are listed from the start on
pub record AbandonedAll (m : Model) (list ws' vs' ds' bs' list' : List ℕ) (r : Abandoned) : Type 0 where
  pub next : r.counts.next_id ≡ m.next
  pub unicasts : Holds unicast_table ws' r.counts.unicasts []
  pub unrouted : Holds unrouted_table vs' r.counts.unrouted []
  pub held : Holds destination_table ds' r.counts.held []
  pub broadcasts : Holds broadcast_table bs' r.counts.broadcasts []
  pub lists : Listed 0 (abandoned m) list list' r.listed
