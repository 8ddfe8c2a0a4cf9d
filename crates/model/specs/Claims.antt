-- What the calls are claimed to mean, in 01's words; proofs/ proves it.
use Rattle.std.specs.Prelude.{ℕ, ◌-◌, ◌≤◌, ◌<◌, min, ◌≡◌, Bool, true, false, not, ◌&&◌, ◌||◌, ◌⊎◌, ◌↔◌, length, take, ltb, leb, eqb, Option, None, Some, Ok, Err}
use mathlib.Core.List.{List, [], ◌∷◌, ◌++◌, Memᴰ}
use Rattle.records.specs.Limits.{last_time, no_id, unicast_room, unrouted_room, destination_room, broadcast_room}
use Rattle.records.specs.Priorities.{rank_of}
use Rattle.records.specs.Records.{unicast_id, unrouted_id, broadcast_id, unicast_entry, unrouted_entry, broadcast_entry}
use Rattle.records.specs.declared.Stage.{Stage}
use Rattle.records.specs.declared.Stage.TheVariants.{Queued, Transmitting, Retrying, AwaitingPoll, AwaitingApsAck}
use Rattle.records.specs.declared.CopyState.{CopyState}
use Rattle.records.specs.declared.CopyState.TheVariants.{Idle, CopyQueued, CopyTransmitting}
use Rattle.records.specs.declared.Refusal.TheVariants.{NotInTheRadio, OtherFrame}
use Rattle.rows.specs.Lists.{All, lookup, remove_by}
use Rattle.rows.specs.Rows.{flat}
use Rattle.rows.specs.Moves.{at_first, any_of, count, told, each_told, has_id}
use Rattle.sending.specs.Rules as uni
use Rattle.sending.specs.Members.{map_fits}
use Rattle.unrouted.specs.Rules as unr
use Rattle.casting.specs.Rules as bro
use Rattle.model.specs.Types.{Schedule, Once, PassiveAck, FixedInterval, Unicast, Unrouted, Broadcast, Settings, Code, Action, Settled, Lapsed, Resolved, Lender, FromUnicasts, FromBroadcasts, Refusal, TimeTooLate, IdsExhausted, NoCopies, NoPlace, NoSuchSend, InTheRadio, DestinationNotHeld, ResultsMismatch, MapMalformed, Denied, Accepted, NothingQueued, InFlight, Unicasting, Broadcasting}
use Rattle.model.specs.Model.{Model, Effect, with_unicasts, with_broadcasts, answers}
use Rattle.model.specs.Calls.{late, attempt_late, reached, matched, dequeue_of, only, routed, failing, lapsed, route_of, cancel_of, wake_of}
use Rattle.model.specs.Sound.{SoundModel}
use Rattle.model.specs.Steps.{Call, step_of}
use Rattle.model.specs.Steps.Call.{EnqueueUnicast, EnqueueCopy, EnqueueUnrouted, EnqueueBroadcast, Dequeue, Transmitted, Poll, AckReceived, RetryDiscovery, FailUnrouted, RouteUnicasts, Delivered, DropIndirect, Cancel, Tick, Abandon, NextWake, Destinations, AwaitingQuorum, PollAddresses, HasUnrouted, HasAwaiting}
use Rattle.model.specs.Steps.Reply.{Says}

-- ---- refusals

-- the send that was looked up is there, and has the test
abbrev pub that_has : {A : Type 0} → (A → Bool) → Option A → Bool
that_has q None = false
that_has q (Some x) = q x

abbrev pub is_there : {A : Type 0} → Option A → Bool
is_there o = that_has (λ x. true) o

-- 2: the next id would be the one never given
abbrev pub ids_out : Model → Bool
ids_out m = eqb m.next no_id

-- 4: the target table is full; for an unrouted send also where its destination is new and 16 are held
abbrev pub unicasts_full : Model → Bool
unicasts_full m = leb unicast_room (length m.unicasts)

abbrev pub unrouted_full : Model → ℕ → Bool
unrouted_full m d = leb unrouted_room (length m.unrouted) || (not (unr.is_held d m.held) && leb destination_room (length m.held))

abbrev pub broadcasts_full : Model → Bool
broadcasts_full m = leb broadcast_room (length m.broadcasts)

-- in the radio: a unicast, and a broadcast
abbrev pub unicast_sent : Unicast → Bool
unicast_sent u = uni.is_sending u.stage

abbrev pub broadcast_sent : Broadcast → Bool
broadcast_sent b = bro.in_radio b.copy

-- a report names a send of this table: it is there, it is in the radio, it has this frame
abbrev pub named_is : Model → Lender → ℕ → (Unicast → Bool) → (Broadcast → Bool) → Bool
named_is m FromUnicasts id q r = that_has q (lookup unicast_id id m.unicasts)
named_is m FromBroadcasts id q r = that_has r (lookup broadcast_id id m.broadcasts)

abbrev pub named_there : Model → Lender → ℕ → Bool
named_there m from id = named_is m from id (λ u. true) (λ b. true)

abbrev pub named_sent : Model → Lender → ℕ → Bool
named_sent m from id = named_is m from id unicast_sent broadcast_sent

abbrev pub named_frame : Model → Lender → ℕ → ℕ → Bool
named_frame m from id frame = named_is m from id (λ u. eqb u.frame frame) (λ b. eqb b.frame frame)

-- 5 for a cancel: no table has the id
abbrev pub nowhere : Model → ℕ → Bool
nowhere m id =
    not (is_there (lookup unicast_id id m.unicasts))
    && (not (is_there (lookup unrouted_id id m.unrouted)) && not (is_there (lookup broadcast_id id m.broadcasts)))

-- 6: it is a unicast in the radio; or it is neither a unicast nor an unrouted send, but a broadcast which is in the radio or has a live copy there
abbrev pub cancel_sent : Model → ℕ → Bool
cancel_sent m id =
    that_has unicast_sent (lookup unicast_id id m.unicasts)
    || (not (is_there (lookup unicast_id id m.unicasts))
    && (not (is_there (lookup unrouted_id id m.unrouted))
    && that_has (λ b. broadcast_sent b || any_of (uni.sent_copy id) m.unicasts) (lookup broadcast_id id m.broadcasts)))

-- a test, and the number that is given where it holds
abbrev pub Bar : Type 0
Bar = Bool × Refusal

-- THE REFUSALS OF EACH CALL, in 01's order (their numbers: records, specs/Numbers)
abbrev pub bars_of : Model → Call → List Bar
bars_of m (EnqueueUnicast s u now) = (late now, TimeTooLate) ∷ (ids_out m, IdsExhausted) ∷ (unicasts_full m, NoPlace) ∷ []
bars_of m (EnqueueCopy s broadcast u now) = (late now, TimeTooLate) ∷ (ids_out m, IdsExhausted) ∷ (unicasts_full m, NoPlace) ∷ []
bars_of m (EnqueueUnrouted s u now) = (late now, TimeTooLate) ∷ (ids_out m, IdsExhausted) ∷ (unrouted_full m u.destination, NoPlace) ∷ []
bars_of m (EnqueueBroadcast s b now) =
    (late now || attempt_late b.schedule, TimeTooLate) ∷ (bro.no_copies b.schedule, NoCopies) ∷ (ids_out m, IdsExhausted) ∷ (broadcasts_full m, NoPlace) ∷ []
bars_of m (Dequeue now) = (late now, TimeTooLate) ∷ []
bars_of m (Transmitted from id frame x now delay) =
    (late now, TimeTooLate)
    ∷ (not (named_there m from id), NoSuchSend) ∷ (not (named_sent m from id), NotInTheRadio) ∷ (not (named_frame m from id frame), OtherFrame) ∷ []
bars_of m (Poll eui nwk now) = (late now, TimeTooLate) ∷ []
bars_of m (AckReceived k) = []
bars_of m (RetryDiscovery d) = (not (unr.is_held d m.held), DestinationNotHeld) ∷ []
bars_of m (FailUnrouted d) = []
bars_of m (RouteUnicasts s d now n rs) =
    (late now, TimeTooLate)
    ∷ (not (matched m d now n rs), ResultsMismatch)
    ∷ (ltb (unicast_room - length m.unicasts) (count reached (take n rs)), NoPlace) ∷ []
bars_of m (Delivered k) = []
bars_of m (DropIndirect eui nwk) = []
bars_of m (Cancel id) = (nowhere m id, NoSuchSend) ∷ (cancel_sent m id, InTheRadio) ∷ []
bars_of m (Tick now) = (late now, TimeTooLate) ∷ []
bars_of m Abandon = []
bars_of m NextWake = []
bars_of m Destinations = []
bars_of m AwaitingQuorum = []
bars_of m (PollAddresses es ns) = (not (map_fits es ns), MapMalformed) ∷ []
bars_of m (HasUnrouted d) = []
bars_of m (HasAwaiting a) = []

-- the number's test holds, and none before it does
abbrev pub Bars : List Bar → Refusal → Type 0
Bars [] x = ⊥
Bars (b ∷ bs) x = ((b.0 ≡ true) × (b.1 ≡ x)) ⊎ ((b.0 ≡ false) × Bars bs x)

-- A CALL IS REFUSED WITH A NUMBER exactly when the number's test is the first that holds
abbrev pub DeniedExactly : Type 0
DeniedExactly = (m : Model) (c : Call) (x : Refusal) → ((step_of m c).reply ≡ Says (Denied x)) ↔ Bars (bars_of m c) x

-- and then it alters nothing and tells nothing
abbrev pub DeniedAltersNothing : Type 0
DeniedAltersNothing = (m : Model) (c : Call) (x : Refusal) → (step_of m c).reply ≡ Says (Denied x) → ((step_of m c).model ≡ m) × ((step_of m c).actions ≡ [])

-- ---- actions

-- NO CALL MAKES MORE THAN 112 ACTIONS
abbrev pub FewActions : Type 0
FewActions = (m : Model) (c : Call) → SoundModel m → length (step_of m c).actions ≤ 112

-- and some call makes that many
pub record Busiest : Type 0 where
  pub model : Model
  pub sound : SoundModel model
  pub call : Call
  pub makes : length (step_of model call).actions ≡ 112

-- ---- dequeue

-- no send of either table is unexpired and queued
abbrev pub NoneWaits : ℕ → Model → Type 0
NoneWaits now m = All (λ (u : Unicast). uni.ready now u ≡ false) m.unicasts × All (λ (b : Broadcast). bro.ready now b ≡ false) m.broadcasts

-- the second of two ids with their ranks is behind: of lower priority, or of the same and no lower id
abbrev pub Behind : ℕ → ℕ → ℕ → ℕ → Type 0
Behind i p j q = (q < p) ⊎ ((q ≡ p) × (i ≤ j))

-- every unexpired queued send of either table is behind that one (ids are live once, so one with the same id is that one)
abbrev pub AllBehind : ℕ → Model → ℕ → ℕ → Type 0
AllBehind now m i p =
    All (λ (u : Unicast). uni.ready now u ≡ true → Behind i p u.id (rank_of u.priority)) m.unicasts
    × All (λ (b : Broadcast). bro.ready now b ≡ true → Behind i p b.id (rank_of b.priority)) m.broadcasts

-- a send of a table is unexpired and queued, the others are behind it, and the call lends it
pub record GoesOut {A : Type 0} (xs : List A) (key rank : A → ℕ) (ready : A → Bool) (lending : A → Effect) (now : ℕ) (m : Model) (e : Effect) : Type 0 where
  pub the : A
  pub there : lookup key (key the) xs ≡ Some the
  pub queued : ready the ≡ true
  pub first : AllBehind now m (key the) (rank the)
  pub lends : e ≡ lending the

-- lent: it is in the radio, and the answer has its id and frame, and of a unicast its next hop and whether another frame is pending for its address
abbrev pub unicast_goes : Model → Unicast → Effect
unicast_goes m u =
    answers (with_unicasts m (at_first (has_id unicast_entry u.id) uni.lend_turn m.unicasts))
    (InFlight u.id u.frame (Unicasting u.next_hop (any_of (uni.beside u.id u.poll_address) m.unicasts)))

abbrev pub broadcast_goes : Model → Broadcast → Effect
broadcast_goes m b =
    answers (with_broadcasts m (at_first (has_id broadcast_entry b.id) bro.dequeue_turn m.broadcasts)) (InFlight b.id b.frame Broadcasting)

-- A DEQUEUE takes the unexpired queued send of highest priority and then of lowest id, of both tables
abbrev pub DequeueIsBest : Type 0
DequeueIsBest =
    (m : Model) (now : ℕ) → SoundModel m → now ≤ last_time
    → ((dequeue_of m now ≡ answers m NothingQueued) × NoneWaits now m)
    ⊎ (GoesOut m.unicasts unicast_id (λ u. rank_of u.priority) (uni.ready now) (unicast_goes m) now m (dequeue_of m now)
    ⊎ GoesOut m.broadcasts broadcast_id (λ b. rank_of b.priority) (bro.ready now) (broadcast_goes m) now m (dequeue_of m now))

-- and nothing exactly when none is there
abbrev pub NothingExactly : Type 0
NothingExactly = (m : Model) (now : ℕ) → SoundModel m → now ≤ last_time → ((dequeue_of m now).answer ≡ NothingQueued) ↔ NoneWaits now m

-- ---- next wake

-- when a send is to be woken for: not in the radio; at its deadline, or at the retry time or an idle broadcast's next attempt if sooner
abbrev pub unicast_times : ℕ → Stage → List ℕ
unicast_times d Queued = d ∷ []
unicast_times d (Transmitting k) = []
unicast_times d (Retrying at) = min at d ∷ []
unicast_times d AwaitingPoll = d ∷ []
unicast_times d AwaitingApsAck = d ∷ []

abbrev pub idle_time : ℕ → Schedule → ℕ
idle_time d Once = d
idle_time d (PassiveAck k n t) = min t d
idle_time d (FixedInterval i n t) = min t d

abbrev pub broadcast_times : ℕ → Schedule → CopyState → List ℕ
broadcast_times d s Idle = idle_time d s ∷ []
broadcast_times d s CopyQueued = d ∷ []
broadcast_times d s CopyTransmitting = []

-- these times, of the sends of each table and of all
abbrev pub unicast_wakes : Model → List ℕ
unicast_wakes m = flat (λ (u : Unicast). unicast_times u.deadline u.stage) m.unicasts

abbrev pub unrouted_wakes : Model → List ℕ
unrouted_wakes m = flat (λ (u : Unrouted). u.deadline ∷ []) m.unrouted

abbrev pub broadcast_wakes : Model → List ℕ
broadcast_wakes m = flat (λ (b : Broadcast). broadcast_times b.deadline b.schedule b.copy) m.broadcasts

abbrev pub wakes_of : Model → List ℕ
wakes_of m = unicast_wakes m ++ (unrouted_wakes m ++ broadcast_wakes m)

-- one of the times, and none is sooner; or nothing, where there are none
abbrev pub IsLeast : List ℕ → Option ℕ → Type 0
IsLeast ts None = ts ≡ []
IsLeast ts (Some t) = Memᴰ t ts × All (λ (y : ℕ). t ≤ y) ts

-- NEXT WAKE is the least of them
abbrev pub WakeIsLeast : Type 0
WakeIsLeast = (m : Model) → IsLeast (wakes_of m) (wake_of m)

-- ---- route

-- the sends that a route takes: those to its destination that its tick leaves, in id order
abbrev pub to_route : Model → ℕ → ℕ → List Unrouted
to_route m d now = only (unr.goes_to d) (lapsed m now)

-- the members of two lists, by place; the second is not the shorter
abbrev pub Each2 : {A B : Type 0} → (A → B → Type 0) → List A → List B → Type 0
Each2 P [] ys = Unit {0}
Each2 P (x ∷ xs) [] = ⊥
Each2 P (x ∷ xs) (y ∷ ys) = P x y × Each2 P xs ys

-- a send has its result: a success is in the unicasts under its id, an error is told as settled with its code
abbrev pub Met : Settings → ℕ → List Unicast → List Action → Unrouted → Resolved → Type 0
Met s now us acts u (Ok (hop, a)) = lookup unicast_id u.id us ≡ Some (routed s now u hop a)
Met s now us acts u (Err c) = Memᴰ (Settled (unrouted_entry u) (Code c) None) acts

pub record RouteDone (m : Model) (s : Settings) (d now : ℕ) (rs : List Resolved) (e : Effect) : Type 0 where
  -- unrouted's tick is told first, then the errors in id order
  pub tells : e.actions ≡ each_told unrouted_entry (unr.sweep_turn (Lapsed now)) m.unrouted ++ failing (to_route m d now) rs
  -- each send has its result, and in the unicasts every id that is no success's has what it had
  pub met : Each2 (Met s now e.model.unicasts e.actions) (to_route m d now) rs
  pub others : (k : ℕ) → Each2 (λ u r. reached r ≡ true → u.id ≡ k → ⊥) (to_route m d now) rs → lookup unicast_id k e.model.unicasts ≡ lookup unicast_id k m.unicasts
  -- of the unrouted sends that the tick leaves, those to other destinations stay; and the destination is not held any more
  pub rest : e.model.unrouted ≡ only (λ (u : Unrouted). not (unr.goes_to d u)) (lapsed m now)
  pub left : All (λ (u : Unrouted). unr.goes_to d u ≡ false) e.model.unrouted
  pub forgotten : unr.is_held d e.model.held ≡ false

-- AN ACCEPTED ROUTE gives every send its result (a refused one alters nothing: DeniedAltersNothing)
abbrev pub RouteMeets : Type 0
RouteMeets =
    (m : Model) (s : Settings) (d now n : ℕ) (rs : List Resolved) → SoundModel m → (route_of m s d now n rs).answer ≡ Accepted
    → RouteDone m s d now (take n rs) (route_of m s d now n rs)

-- ---- cancel

-- AFTER AN ACCEPTED CANCEL no table has the id
abbrev pub CancelLeavesNone : Type 0
CancelLeavesNone =
    (m : Model) (id : ℕ) → SoundModel m → (cancel_of m id).answer ≡ Accepted
    → (lookup unicast_id id (cancel_of m id).model.unicasts ≡ None)
    × ((lookup unrouted_id id (cancel_of m id).model.unrouted ≡ None) × (lookup broadcast_id id (cancel_of m id).model.broadcasts ≡ None))

-- a broadcast is settled, and then its copies in id order; it and they are gone, and the others of both tables stay
pub record CastCancelled (m : Model) (id : ℕ) (b : Broadcast) (e : Effect) : Type 0 where
  pub tells : e.actions ≡ told (broadcast_entry b) (bro.cancel_turn b) ++ each_told unicast_entry uni.cancel_turn (only (uni.copies id) m.unicasts)
  pub unicasts : e.model.unicasts ≡ only (λ (u : Unicast). not (uni.copies id u)) m.unicasts
  pub broadcasts : e.model.broadcasts ≡ remove_by broadcast_id id m.broadcasts
  pub copies : All (λ (u : Unicast). uni.copies id u ≡ false) e.model.unicasts

-- AN ACCEPTED CANCEL OF A BROADCAST does that
abbrev pub CancelTakesCopies : Type 0
CancelTakesCopies =
    (m : Model) (id : ℕ) (b : Broadcast) → SoundModel m → lookup broadcast_id id m.broadcasts ≡ Some b → (cancel_of m id).answer ≡ Accepted
    → CastCancelled m id b (cancel_of m id)
