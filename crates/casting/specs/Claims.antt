-- What the definitions are claimed to mean. proofs/Bests, proofs/Wakes and proofs/Sanes prove it.
use Rattle.std.specs.Prelude.{ℕ, ◌≤◌, ◌<◌, ◌≡◌, Bool, true, false, List, [], ◌⊎◌, leb, Option, None, Some}
use Rattle.records.specs.Priorities.{rank_of}
use Rattle.records.specs.Records.{broadcast_id, broadcast_entry}
use Rattle.rows.specs.Lists.{All, lookup, Rising}
use Rattle.rows.specs.Moves.{each, each_told, any_of}
use Rattle.rows.specs.declared.Turn.{Turn}
use Rattle.rows.specs.declared.Turn.TheVariants.{Keeps, HandsOff, Settles}
use Rattle.tables.specs.Layouts.{broadcast_head}
use Rattle.casting.specs.Types.{Schedule, Once, PassiveAck, FixedInterval, CopyState, Idle, CopyQueued, CopyTransmitting, Broadcast}
use Rattle.casting.specs.Rules.{no_copies, tick_turn, stirs_head, ready, best_of, wake_of}

-- ---- best queued

-- of lower priority, or of the same and with an id that is not lower
abbrev pub Behind : ℕ → ℕ → Broadcast → Type 0
Behind id rank b = (rank_of b.priority < rank) ⊎ ((rank_of b.priority ≡ rank) × (id ≤ b.id))

-- the one with that id is queued and unexpired, has that rank, and every other such one is behind it
pub record Tops (now : ℕ) (bs : List Broadcast) (id rank : ℕ) : Type 0 where
  pub the : Broadcast
  pub there : lookup broadcast_id id bs ≡ Some the
  pub queued : ready now the ≡ true
  pub ranks : rank_of the.priority ≡ rank
  pub first : All (λ (b : Broadcast). ready now b ≡ true → Behind id rank b) bs

-- what the answer says: nothing where none is queued and unexpired
abbrev pub Says : ℕ → List Broadcast → Option (ℕ × ℕ) → Type 0
Says now bs None = All (λ (b : Broadcast). ready now b ≡ false) bs
Says now bs (Some (id, rank)) = Tops now bs id rank

-- THE BEST QUEUED is of the highest priority and then of the lowest id
abbrev pub BestIsBest : Type 0
BestIsBest = (now lo : ℕ) (bs : List Broadcast) → Rising broadcast_id lo bs → Says now bs (best_of now bs)

-- and there is none only where none is
abbrev pub NoneIfNone : Type 0
NoneIfNone = (now : ℕ) (bs : List Broadcast) → All (λ (b : Broadcast). ready now b ≡ false) bs → best_of now bs ≡ None

-- ---- next wake

-- a tick finds something to do with it
abbrev pub stirring : ℕ → Broadcast → Bool
stirring now b = stirs_head now (broadcast_head b)

-- the time has come, if there is one
abbrev pub due_by : ℕ → Option ℕ → Bool
due_by now None = false
due_by now (Some t) = leb t now

-- A TICK FINDS SOMETHING TO DO exactly from the next wake on
abbrev pub WakeIsDue : Type 0
WakeIsDue = (now : ℕ) (bs : List Broadcast) → any_of (stirring now) bs ≡ due_by now (wake_of bs)

-- and before it changes nothing and tells nothing
abbrev pub QuietBefore : Type 0
QuietBefore = (now : ℕ) (bs : List Broadcast) → due_by now (wake_of bs) ≡ false → (each (tick_turn now) bs ≡ bs) × (each_told broadcast_entry (tick_turn now) bs ≡ [])

-- ---- what the rules keep: a verdict that the Rust has none for is never asked

abbrev pub is_once : Schedule → Bool
is_once Once = true
is_once (PassiveAck k n t) = false
is_once (FixedInterval i n t) = false

abbrev pub is_idle : CopyState → Bool
is_idle Idle = true
is_idle CopyQueued = false
is_idle CopyTransmitting = false

abbrev pub has_error : Option ℕ → Bool
has_error None = false
has_error (Some c) = true

-- a once is never handed off and live; an idle one that has no copy left and was not handed off has a radio error
pub record Sane (b : Broadcast) : Type 0 where
  pub once : is_once b.schedule ≡ true → b.handed_off ≡ false
  pub error : is_idle b.copy ≡ true → no_copies b.schedule ≡ true → b.handed_off ≡ false → has_error b.last_error ≡ true

-- what a turn leaves is sane
abbrev pub Leaves : Turn Broadcast → Type 0
Leaves (Keeps b) = Sane b
Leaves (HandsOff b) = Sane b
Leaves (Settles again v h) = Unit {0}
