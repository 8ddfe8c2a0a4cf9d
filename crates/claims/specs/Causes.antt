-- SUCCESS ONLY FOR CAUSE: a send is settled as a success, or told as handed off, only where its cause is among the calls made so far, this one included.
-- Any calls may stand in a history, refused ones too; its first id is any u32 (first ≤ no_id). proofs/Causes proves it.
use Rattle.std.specs.Prelude.{ℕ, ◌≤◌, ◌≡◌, Bool, true, ◌⊎◌, Option, None, Some, Ok, Err}
use mathlib.Core.List.{List, [], ◌∷◌, ◌++◌, Memᴰ}
use Rattle.records.specs.Limits.{no_id}
use Rattle.records.specs.Records.{unicast_entry, broadcast_entry}
use Rattle.claims.specs.CausesTypes.{AckKey, QuorumKey, Confirm, OnHandoff, ApsAck, Schedule, Once, PassiveAck, FixedInterval, Success, Entry, HandedOff, Settled}
use Rattle.rows.specs.Lists.{All}
use Rattle.sending.specs.Rules as uni
use Rattle.casting.specs.Rules as bro
use Rattle.claims.specs.CausesTypes.{Lender, FromUnicasts, Accepted, Issued}
use Rattle.model.specs.Model.{Model, fresh_of}
use Rattle.model.specs.Steps.{Call, step_of, after}
use Rattle.model.specs.Steps.Call.{EnqueueUnicast, EnqueueCopy, EnqueueUnrouted, EnqueueBroadcast, Dequeue, Transmitted, Poll, AckReceived, RetryDiscovery, FailUnrouted, RouteUnicasts, Delivered, DropIndirect, Cancel, Tick, Abandon, NextWake, Destinations, AwaitingQuorum, PollAddresses, HasUnrouted, HasAwaiting}
use Rattle.model.specs.Steps.Reply.{Says}

-- ---- histories

-- what may be said of one call, and of the tables that it was made on
abbrev pub Fact : Type 1
Fact = Model → Call → Type 0

-- it holds of some call, of those made one after the other from these tables on
abbrev pub Ever : Model → List Call → Fact → Type 0
Ever m [] P = ⊥
Ever m (c ∷ cs) P = P m c ⊎ Ever (step_of m c).model cs P

-- ---- what a send wants for its success, by the call that enqueues it

pub data Want : Type 0 where
  AnAck : AckKey → Want
  AReport : Want
  AReportAndQuorum : QuorumKey → Want

abbrev pub confirm_want : Confirm → Want
confirm_want OnHandoff = AReport
confirm_want (ApsAck k wait) = AnAck k

abbrev pub schedule_want : Schedule → Want
schedule_want Once = AReport
schedule_want (PassiveAck k n t) = AReportAndQuorum k
schedule_want (FixedInterval i n t) = AReport

abbrev pub want_of : Call → Option Want
want_of (EnqueueUnicast s u now) = Some (confirm_want u.confirm)
want_of (EnqueueCopy s broadcast u now) = Some (confirm_want u.confirm)
want_of (EnqueueUnrouted s u now) = Some (confirm_want u.confirm)
want_of (EnqueueBroadcast s b now) = Some (schedule_want b.schedule)
want_of (Dequeue now) = None
want_of (Transmitted from id frame x now delay) = None
want_of (Poll eui nwk now) = None
want_of (AckReceived k) = None
want_of (RetryDiscovery d) = None
want_of (FailUnrouted d) = None
want_of (RouteUnicasts s d now n rs) = None
want_of (Delivered k) = None
want_of (DropIndirect eui nwk) = None
want_of (Cancel id) = None
want_of (Tick now) = None
want_of Abandon = None
want_of NextWake = None
want_of Destinations = None
want_of AwaitingQuorum = None
want_of (PollAddresses es ns) = None
want_of (HasUnrouted d) = None
want_of (HasAwaiting a) = None

-- ---- what is said of a call

-- it enqueued the send i, which wants that
pub record Enqueued (i : ℕ) (w : Want) (m : Model) (c : Call) : Type 0 where
  pub wants : want_of c ≡ Some w
  pub issued : (step_of m c).reply ≡ Says (Issued i)

-- i is the oldest send of a table with a test: it is there and has it, and no send with it has a lower id
pub record Oldest {A : Type 0} (entry : A → Entry) (q : A → Bool) (xs : List A) (i : ℕ) : Type 0 where
  pub the : A
  pub there : Memᴰ the xs
  pub named : (entry the).id ≡ i
  pub has : q the ≡ true
  pub first : All (λ (x : A). q x ≡ true → i ≤ (entry x).id) xs

-- it is an ack with the key k, and i is then the oldest unicast that an ack with this key confirms
pub record Acked (i : ℕ) (k : AckKey) (m : Model) (c : Call) : Type 0 where
  pub came : c ≡ AckReceived k
  pub oldest : Oldest unicast_entry (uni.keyed k) m.unicasts i

-- it is a report of success on the send i, and is accepted: i is in the radio then, with this frame
pub record Reported (i : ℕ) (m : Model) (c : Call) : Type 0 where
  pub from : Lender
  pub frame : ℕ
  pub now : ℕ
  pub delay : ℕ
  pub came : c ≡ Transmitted from i frame (Ok tt) now delay
  pub accepted : (step_of m c).reply ≡ Says Accepted

-- it says that the key k was delivered, and i is then the oldest broadcast that waits for this key's quorum
pub record Heard (i : ℕ) (k : QuorumKey) (m : Model) (c : Call) : Type 0 where
  pub came : c ≡ Delivered k
  pub oldest : Oldest broadcast_entry (bro.keyed k) m.broadcasts i

-- ---- the cause of a success

-- what the send i wants has come
abbrev pub Met : (Fact → Type 0) → ℕ → Want → Type 0
Met E i (AnAck k) = E (Acked i k)
Met E i AReport = E (Reported i)
Met E i (AReportAndQuorum k) = E (Reported i) × E (Heard i k)

-- it was enqueued, and what it wants has come
pub record Caused (E : Fact → Type 0) (i : ℕ) : Type 0 where
  pub want : Want
  pub enqueued : E (Enqueued i want)
  pub met : Met E i want

-- SUCCESS FOR CAUSE: where the call c, made after the calls cs from fresh tables, settles a send as a success, the calls up to and with c hold its cause
abbrev pub SuccessForCause : Type 0
SuccessForCause =
    (first : ℕ) (cs : List Call) (c : Call) (e : Entry) (hop : Option ℕ) → first ≤ no_id
    → Memᴰ (Settled e Success hop) (step_of (after (fresh_of first) cs) c).actions → Caused (Ever (fresh_of first) (cs ++ (c ∷ []))) e.id

-- HANDED OFF FOR CAUSE: where it tells that a send is handed off, they hold an accepted report of success on it
abbrev pub HandedOffForCause : Type 0
HandedOffForCause =
    (first : ℕ) (cs : List Call) (c : Call) (i waiter : ℕ) → first ≤ no_id
    → Memᴰ (HandedOff i waiter) (step_of (after (fresh_of first) cs) c).actions → Ever (fresh_of first) (cs ++ (c ∷ [])) (Reported i)

-- ONE WANT: what a send wants is one thing, since its id is issued once
abbrev pub OneWant : Type 0
OneWant =
    (first : ℕ) (cs : List Call) (i : ℕ) (v w : Want) → Ever (fresh_of first) cs (Enqueued i v) → Ever (fresh_of first) cs (Enqueued i w) → v ≡ w

-- ---- the device that polled and got nothing

-- A POLL TELLS NOTHING, on any tables
abbrev pub PollTellsNothing : Type 0
PollTellsNothing = (m : Model) (eui : Option ℕ) (nwk : Option ℕ) (now : ℕ) → (step_of m (Poll eui nwk now)).actions ≡ []

-- A FAILED TRANSMIT IS NO SUCCESS: where no ack came for the unicast i, a report that its transmit failed settles nothing as a success
abbrev pub FailedIsNoSuccess : Type 0
FailedIsNoSuccess =
    (first : ℕ) (cs : List Call) (i frame code now delay : ℕ) (e : Entry) (hop : Option ℕ) → first ≤ no_id → ((k : AckKey) → Ever (fresh_of first) cs (Acked i k) → ⊥)
    → Memᴰ (Settled e Success hop) (step_of (after (fresh_of first) cs) (Transmitted FromUnicasts i frame (Err code) now delay)).actions → ⊥
