-- 01's rules of unrouted sends, on one send and on the lists of sends and of held destinations.
use Rattle.std.specs.Prelude.{ℕ, ◌+◌, ◌-◌, Bool, false, not, ◌&&◌, ◌||◌, List, [], ◌∷◌, length, ltb, leb, eqb, Option, None, Some}
use Rattle.records.specs.Pick.{pick, bit}
use Rattle.records.specs.Limits.{unrouted_room, destination_room}
use Rattle.records.specs.Records.{unrouted_id, destination_address}
use Rattle.records.specs.Times.{sooner}
use Rattle.rows.specs.Lists.{fold, insert_by, lookup}
use Rattle.rows.specs.Moves.{at_first, any_of, first_of}
use Rattle.rows.specs.declared.Turn.{Turn}
use Rattle.rows.specs.declared.Turn.TheVariants.{Keeps, Settles}
use Rattle.tables.specs.Layouts.{unrouted_head}
use Rattle.unrouted.specs.Types.{Priority, Confirm, Unrouted, UnroutedHead, Destination, SendFailure, HandoffTimeout, RouteDiscoveryTimeout, Cancelled, Failure, Which, Lapsed, Bound, Retry, NotHeld, Declined, Granted}

-- ---- on one send

-- its deadline: now + handoff timeout
abbrev pub admitted_of : ℕ → ℕ → ℕ → Priority → Confirm → ℕ → ℕ → ℕ → Unrouted
admitted_of id frame waiter priority confirm destination now handoff =
    record { id = id; frame = frame; waiter = waiter; priority = priority; confirm = confirm; destination = destination; deadline = now + handoff }

-- the sends that a sweep settles, and as what: a tick those whose deadline has come, a failed discovery those to its destination
abbrev pub chosen_head : Which → UnroutedHead → Bool
chosen_head (Lapsed now) h = leb h.deadline now
chosen_head (Bound d) h = eqb h.destination d

abbrev pub chosen : Which → Unrouted → Bool
chosen which u = chosen_head which (unrouted_head u)

abbrev pub failure_of : Which → SendFailure
failure_of (Lapsed now) = HandoffTimeout
failure_of (Bound d) = RouteDiscoveryTimeout

abbrev pub sweep_turn : Which → Unrouted → Turn Unrouted
sweep_turn which u = pick (chosen which u) (Settles false (Failure (failure_of which)) None) (Keeps u)

abbrev pub cancel_turn : Unrouted → Turn Unrouted
cancel_turn u = Settles false (Failure Cancelled) None

-- it goes to that destination; and would still be there after a tick
abbrev pub goes_to : ℕ → Unrouted → Bool
goes_to d u = chosen (Bound d) u

abbrev pub left_to : ℕ → ℕ → Unrouted → Bool
left_to now d u = pick (goes_to d u) (ltb now u.deadline) false

abbrev pub left_head : ℕ → ℕ → UnroutedHead → ℕ
left_head d now h = bit (pick (eqb h.destination d) (ltb now h.deadline) false)

-- ---- on the lists

-- next wake: the least deadline
abbrev pub wake_of : List Unrouted → Option ℕ
wake_of us = fold (λ (u : Unrouted) (o : Option ℕ). sooner u.deadline o) None us

-- the sends without the first that has the test
abbrev pub drop_first : (Unrouted → Bool) → List Unrouted → List Unrouted
drop_first q [] = []
drop_first q (u ∷ us) = pick (q u) us (u ∷ drop_first q us)

-- the next send that a route takes
abbrev pub took_of : Option Unrouted → Option Unrouted
took_of None = None
took_of (Some u) = Some u

abbrev pub take_of : ℕ → List Unrouted → Option Unrouted
take_of d us = took_of (first_of (goes_to d) us)

-- a destination is held
abbrev pub is_held : ℕ → List Destination → Bool
is_held d hs = any_of (λ (h : Destination). eqb h.address d) hs

-- a new one is held with attempts − 1 retries, 0 staying 0; a held one keeps its count
abbrev pub newly_held : ℕ → ℕ → Destination
newly_held attempts d = record { address = d; retries = attempts - 1 }

abbrev pub holding : ℕ → ℕ → List Destination → List Destination
holding attempts d hs = pick (is_held d hs) hs (insert_by destination_address (newly_held attempts d) hs)

-- an enqueue is refused where the table is full, or the destination is new and 16 are held
abbrev pub no_room : Unrouted → List Unrouted → List Destination → Bool
no_room u us hs = leb unrouted_room (length us) || (not (is_held u.destination hs) && leb destination_room (length hs))

abbrev pub enqueue_of : ℕ → Unrouted → List Unrouted → List Destination → Option (ℕ × ℕ)
enqueue_of attempts u us hs =
    pick (no_room u us hs) None (Some (length (insert_by unrouted_id u us), length (holding attempts u.destination hs)))

-- a retry: refused where the destination is not held; yes and one less if its count is above 0 and a send waits; otherwise no
abbrev pub retry_by : Bool → Option Destination → Retry
retry_by waits None = NotHeld
retry_by waits (Some h) = pick (waits && ltb 0 h.retries) Granted Declined

abbrev pub retry_of : ℕ → List Unrouted → List Destination → Retry
retry_of d us hs = retry_by (any_of (goes_to d) us) (lookup destination_address d hs)

abbrev pub spent_by : Retry → ℕ → List Destination → List Destination
spent_by NotHeld d hs = hs
spent_by Declined d hs = hs
spent_by Granted d hs = at_first (λ (h : Destination). eqb h.address d) (λ (h : Destination). Keeps (record { address = h.address; retries = h.retries - 1 })) hs
