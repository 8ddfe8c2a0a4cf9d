-- A RUN IS A HISTORY OF CALLS: the calls that its records make, that its tables are what these calls leave, and that its answers say what they say. So
-- what the claims prove of every history (claims/specs/Ledger, claims/specs/Causes) holds of the answers of every trace. proofs/Histories proves it.
use Rattle.std.specs.Prelude.{ℕ, ◌≡◌, eqb, Option}
use mathlib.Core.List.{List, [], ◌∷◌, ◌++◌, map, Memᴰ}
use Rattle.records.specs.Records.{unicast_entry, unrouted_entry, broadcast_entry}
use Rattle.records.specs.declared.Verdict.TheVariants.{Success}
use Rattle.records.specs.declared.Entry.{Entry}
use Rattle.records.specs.declared.Action.{Action}
use Rattle.records.specs.declared.Action.TheVariants.{HandedOff, Settled}
use Rattle.rows.specs.Moves.{count, settled_of}
use Rattle.model.specs.Types.{Resolved}
use Rattle.model.specs.Model.{Model, fresh_of}
use Rattle.model.specs.Steps.{Call, after}
use Rattle.model.specs.Steps.Call.{EnqueueUnicast, EnqueueCopy, EnqueueUnrouted, EnqueueBroadcast, Dequeue, Transmitted, Poll, AckReceived, RetryDiscovery, FailUnrouted, RouteUnicasts, Delivered, DropIndirect, Cancel, Tick, Abandon, NextWake, Destinations, AwaitingQuorum, PollAddresses, HasUnrouted, HasAwaiting}
use Rattle.claims.specs.Ledger.{Made, history, gathered, ever_said, ever_listed, has, JustOne}
use Rattle.claims.specs.Causes.{Ever, Reported, Caused}
use Rattle.events.specs.Events.{event_of}
use Rattle.events.specs.Routes.{results_in}
use Rattle.events.specs.declared.Event.{Event}
use Rattle.events.specs.declared.Event.TheVariants.{OnSettings, OnUnicast, OnCopy, OnUnrouted, OnBroadcast, OnDequeue, OnReport, OnPoll, OnAck, OnRetry, OnFail, OnRoute, OnDelivered, OnDrop, OnCancel, OnTick, OnAbandon, OnNextWake, OnPair, OnLists, OnHasUnrouted, OnHasAwaiting, Malformed}
use Rattle.answers.specs.declared.Item.{Item}
use Rattle.answers.specs.declared.Item.TheVariants.{Refused, Done, Id, Handoff, Settlement, Flight, YesNo, Time, ShortAddress, ExtendedAddress, Key, Abandonment, DestinationAddress, End}
use Rattle.answers.specs.Items.{items_bytes}
use Rattle.exchange.specs.World.{World, fresh_world, step_on, made}
use Rattle.runs.specs.Run.{step_by}
use Rattle.runs.specs.Claims.{Read, world_by, answers_over, world_over}

-- ---- the calls that a record makes: none for a setting, a pair and what is outside its form; three questions for the lists; one for every other

abbrev pub calls_of : World → Event → List Resolved → List Call
calls_of w (OnSettings s) rs = []
calls_of w (OnUnicast now u) rs = EnqueueUnicast w.settings u now ∷ []
calls_of w (OnCopy id now u) rs = EnqueueCopy w.settings id u now ∷ []
calls_of w (OnUnrouted now u) rs = EnqueueUnrouted w.settings u now ∷ []
calls_of w (OnBroadcast now u) rs = EnqueueBroadcast w.settings u now ∷ []
calls_of w (OnDequeue now) rs = Dequeue now ∷ []
calls_of w (OnReport from id frame x now delay) rs = Transmitted from id frame x now delay ∷ []
calls_of w (OnPoll now eui nwk) rs = Poll eui nwk now ∷ []
calls_of w (OnAck k) rs = AckReceived k ∷ []
calls_of w (OnRetry d) rs = RetryDiscovery d ∷ []
calls_of w (OnFail d) rs = FailUnrouted d ∷ []
calls_of w (OnRoute now d n) rs = RouteUnicasts w.settings d now n rs ∷ []
calls_of w (OnDelivered k) rs = Delivered k ∷ []
calls_of w (OnDrop eui nwk) rs = DropIndirect eui nwk ∷ []
calls_of w (OnCancel id) rs = Cancel id ∷ []
calls_of w (OnTick now) rs = Tick now ∷ []
calls_of w OnAbandon rs = Abandon ∷ []
calls_of w OnNextWake rs = NextWake ∷ []
calls_of w (OnPair x y) rs = []
calls_of w OnLists rs = Destinations ∷ AwaitingQuorum ∷ PollAddresses w.longs w.shorts ∷ []
calls_of w (OnHasUnrouted d) rs = HasUnrouted d ∷ []
calls_of w (OnHasAwaiting a) rs = HasAwaiting a ∷ []
calls_of w Malformed rs = []

abbrev pub calls_by : World → Read → List Call
calls_by w r = calls_of w (event_of r.kind r.body) (results_in r.body)

-- of several, one after the other
abbrev pub calls_over : World → List Read → List Call
calls_over w [] = []
calls_over w (r ∷ rs) = calls_by w r ++ calls_over (world_by w r) rs

-- 1. A RUN IS A HISTORY: the tables that records leave are those that their calls leave.
abbrev pub RunIsAHistory : Type 0
RunIsAHistory = (w : World) (rs : List Read) → (world_over w rs).model ≡ after w.model (calls_over w rs)

-- 2. TOLD BY THE STEP: an event that is one call does what step_of says of it: `made` has its outcome's model, and as answers what it tells.
abbrev pub ToldByTheStep : Type 0
ToldByTheStep = (w : World) (e : Event) (rs : List Resolved) (c : Call) → calls_of w e rs ≡ c ∷ [] → step_on w e rs ≡ made w c

-- ---- the answers as items, and what they say of sends: ids issued (130), what was handed off and settled (131, 132), id and waiter of those abandoned (139)

abbrev pub items_to : World → Read → List Item
items_to w r = (step_by w r.kind r.body).items

abbrev pub items_over : World → List Read → List Item
items_over w [] = []
items_over w (r ∷ rs) = items_to w r ++ items_over (world_by w r) rs

pub record Spoken : Type 0 where
  pub issued : List ℕ
  pub actions : List Action
  pub left : List (ℕ × ℕ)

abbrev pub nothing : Spoken
nothing = record { issued = []; actions = []; left = [] }

abbrev pub said_by : Item → Spoken
said_by (Id n) = record { issued = n ∷ []; actions = []; left = [] }
said_by (Handoff id waiter) = record { issued = []; actions = HandedOff id waiter ∷ []; left = [] }
said_by (Settlement e v hop) = record { issued = []; actions = Settled e v hop ∷ []; left = [] }
said_by (Abandonment id waiter) = record { issued = []; actions = []; left = (id, waiter) ∷ [] }
said_by (Refused x) = nothing
said_by Done = nothing
said_by (Flight id frame t) = nothing
said_by (YesNo b) = nothing
said_by (Time t) = nothing
said_by (ShortAddress x) = nothing
said_by (ExtendedAddress x) = nothing
said_by (Key k) = nothing
said_by (DestinationAddress x) = nothing
said_by (End status consumed) = nothing

abbrev pub and_then : Spoken → Spoken → Spoken
and_then a b = record { issued = a.issued ++ b.issued; actions = a.actions ++ b.actions; left = a.left ++ b.left }

abbrev pub said_in : List Item → Spoken
said_in [] = nothing
said_in (i ∷ is) = and_then (said_by i) (said_in is)

-- what a history says of them
abbrev pub ever_told : List Made → List Action
ever_told h = gathered (λ (x : Made). x.1.actions) h

abbrev pub said_over : List Made → Spoken
said_over h = record { issued = ever_said h; actions = ever_told h; left = map (λ (e : Entry). (e.id, e.waiter)) (ever_listed h) }

-- 3. THE ANSWERS SAY WHAT THE HISTORY SAYS, all of it, in its order, and no more of sends.
abbrev pub AnswersAreItems : Type 0
AnswersAreItems = (w : World) (rs : List Read) → answers_over w rs ≡ items_bytes (items_over w rs)

abbrev pub AnswersSay : Type 0
AnswersSay = (w : World) (rs : List Read) → said_in (items_over w rs) ≡ said_over (history w.model (calls_over w rs))

-- 4. THE LEDGER OF A TRACE: an id that the answers issue is, after the last record, in just one place, once: live in one of the three tables, told as
-- settled, or told as abandoned. Of every list of records, so of those that any run answers (reads_of), and of any first ones of them.
abbrev pub tables_over : List Read → Model
tables_over rs = (world_over fresh_world rs).model

abbrev pub told_over : List Read → Spoken
told_over rs = said_in (items_over fresh_world rs)

abbrev pub whereabouts : List Read → ℕ → List ℕ
whereabouts rs i =
    count (has i) (map unicast_entry (tables_over rs).unicasts)
    ∷ count (has i) (map unrouted_entry (tables_over rs).unrouted)
    ∷ count (has i) (map broadcast_entry (tables_over rs).broadcasts)
    ∷ count (has i) (settled_of (told_over rs).actions)
    ∷ count (λ (x : ℕ × ℕ). eqb x.0 i) (told_over rs).left ∷ []

abbrev pub TraceLedger : Type 0
TraceLedger = (rs : List Read) (i : ℕ) → Memᴰ i (told_over rs).issued → JustOne (whereabouts rs i)

-- 5. SUCCESS ONLY FOR CAUSE: where the answers of a record tell a send as a success, or as handed off, its cause is among the calls of the records so far,
-- this one included.
abbrev pub TraceSuccess : Type 0
TraceSuccess =
    (rs : List Read) (r : Read) (e : Entry) (hop : Option ℕ) → Memᴰ (Settlement e Success hop) (items_to (world_over fresh_world rs) r)
    → Caused (Ever (fresh_of 0) (calls_over fresh_world (rs ++ (r ∷ [])))) e.id

abbrev pub TraceHandedOff : Type 0
TraceHandedOff =
    (rs : List Read) (r : Read) (i waiter : ℕ) → Memᴰ (Handoff i waiter) (items_to (world_over fresh_world rs) r)
    → Ever (fresh_of 0) (calls_over fresh_world (rs ++ (r ∷ []))) (Reported i)
