-- 01's rules of unicasts, on one send: what each call makes of it, as a turn, and what is asked of it.
use Rattle.std.specs.Prelude.{ℕ, ◌+◌, ◌-◌, Bool, true, false, not, ◌&&◌, ◌||◌, ltb, leb, eqb, Option, None, Some, Ok, Err}
use Rattle.records.specs.Pick.{pick}
use Rattle.records.specs.Priorities.{rank_of}
use Rattle.records.specs.Same.{same_address, same_ack_key}
use Rattle.records.specs.Times.{sooner}
use Rattle.rows.specs.declared.Turn.{Turn}
use Rattle.rows.specs.declared.Turn.TheVariants.{Keeps, HandsOff, Settles}
use Rattle.tables.specs.Layouts.{unicast_head}
use Rattle.sending.specs.Types.{Address, Absent, Short, Extended, Priority, StackCritical, AckKey, Confirm, OnHandoff, ApsAck, Stage, Queued, Transmitting, Retrying, AwaitingPoll, AwaitingApsAck, Unicast, Settings, TxResult, SendFailure, HandoffTimeout, ApsAckTimeout, IndirectExpired, Cancelled, Verdict, Success, Failure, Code, UnicastHead, Due, Leave, Requeue, Finish, Which, Lapsed, Dropped, CopyOf, Sought, Pending, Beside, SentCopy}

-- the send with another priority, count of attempts, stage and deadline
abbrev pub remade_of : Unicast → Priority → ℕ → Stage → ℕ → Unicast
remade_of u p n s d =
    record {
      id = u.id;
      frame = u.frame;
      waiter = u.waiter;
      priority = p;
      confirm = u.confirm;
      next_hop = u.next_hop;
      poll_address = u.poll_address;
      attempts_remaining = n;
      stage = s;
      deadline = d;
      copy_of = u.copy_of;
    }

abbrev pub with_stage : Unicast → Stage → Unicast
with_stage u s = remade_of u u.priority u.attempts_remaining s u.deadline

-- ---- admission

-- no poll address: queued; with one: awaiting its poll
abbrev pub stage_for : Address → Stage
stage_for Absent = Queued
stage_for (Short n) = AwaitingPoll
stage_for (Extended n) = AwaitingPoll

-- no poll address: now + handoff timeout, or the admitted deadline
abbrev pub sent_by : ℕ → Option ℕ → ℕ
sent_by d None = d
sent_by d (Some t) = t

-- a poll address: now + persistence time, or the admitted deadline if less
abbrev pub polled_by : ℕ → Option ℕ → ℕ
polled_by d None = d
polled_by d (Some t) = pick (ltb t d) t d

abbrev pub deadline_for : Settings → ℕ → Option ℕ → Address → ℕ
deadline_for s now given Absent = sent_by (now + s.handoff_timeout) given
deadline_for s now given (Short n) = polled_by (now + s.persistence_time) given
deadline_for s now given (Extended n) = polled_by (now + s.persistence_time) given

abbrev pub admitted_of : ℕ → ℕ → ℕ → Priority → Confirm → ℕ → Address → Option ℕ → Settings → ℕ → Option ℕ → Unicast
admitted_of id frame waiter priority confirm hop address copy s now given =
    record {
      id = id;
      frame = frame;
      waiter = waiter;
      priority = priority;
      confirm = confirm;
      next_hop = hop;
      poll_address = address;
      attempts_remaining = s.unicast_retries;
      stage = stage_for address;
      deadline = deadline_for s now given address;
      copy_of = copy;
    }

-- ---- stages

abbrev pub is_queued : Stage → Bool
is_queued Queued = true
is_queued (Transmitting k) = false
is_queued (Retrying t) = false
is_queued AwaitingPoll = false
is_queued AwaitingApsAck = false

abbrev pub is_awaiting : Stage → Bool
is_awaiting Queued = false
is_awaiting (Transmitting k) = false
is_awaiting (Retrying t) = false
is_awaiting AwaitingPoll = true
is_awaiting AwaitingApsAck = false

-- in the radio
abbrev pub is_sending : Stage → Bool
is_sending Queued = false
is_sending (Transmitting k) = true
is_sending (Retrying t) = false
is_sending AwaitingPoll = false
is_sending AwaitingApsAck = false

abbrev pub is_acking : Stage → Bool
is_acking Queued = false
is_acking (Transmitting k) = false
is_acking (Retrying t) = false
is_acking AwaitingPoll = false
is_acking AwaitingApsAck = true

-- settling from awaiting-ack repeats the handoff
abbrev pub settle_turn : Unicast → Verdict → Turn Unicast
settle_turn u v = Settles (is_acking u.stage) v None

-- ---- dequeue and poll

abbrev pub lend_turn : Unicast → Turn Unicast
lend_turn u = Keeps (with_stage u (Transmitting false))

-- a polled frame becomes queued and StackCritical
abbrev pub polled_of : Unicast → Unicast
polled_of u = remade_of u StackCritical u.attempts_remaining Queued u.deadline

abbrev pub poll_turn : Unicast → Turn Unicast
poll_turn u = Keeps (polled_of u)

-- ---- ack

-- the send is confirmed by an ack with this key, in whatever stage
abbrev pub keyed_by : AckKey → Confirm → Bool
keyed_by k OnHandoff = false
keyed_by k (ApsAck l wait) = same_ack_key l k

abbrev pub keyed : AckKey → Unicast → Bool
keyed k u = keyed_by k u.confirm

-- in the radio it is marked, else settled
abbrev pub ack_by : Unicast → Stage → Turn Unicast
ack_by u Queued = Settles false Success None
ack_by u (Transmitting k) = Keeps (with_stage u (Transmitting true))
ack_by u (Retrying t) = Settles false Success None
ack_by u AwaitingPoll = Settles false Success None
ack_by u AwaitingApsAck = Settles true Success None

abbrev pub ack_turn : Unicast → Turn Unicast
ack_turn u = ack_by u u.stage

-- ---- report

-- handoff: on-handoff or acked settles; else await the ack to now + wait
abbrev pub hand_off_by : Unicast → Bool → ℕ → Confirm → Turn Unicast
hand_off_by u acked now OnHandoff = Settles false Success None
hand_off_by u acked now (ApsAck k wait) =
    pick acked (Settles false Success None) (HandsOff (remade_of u u.priority u.attempts_remaining AwaitingApsAck (now + wait)))

abbrev pub hand_off : Unicast → Bool → ℕ → Turn Unicast
hand_off u acked now = hand_off_by u acked now u.confirm

-- a held one goes back to awaiting its poll if now < deadline, else settles with the code
abbrev pub fail_held : Unicast → ℕ → ℕ → Turn Unicast
fail_held u code now = pick (ltb now u.deadline) (Keeps (with_stage u AwaitingPoll)) (Settles false (Code code) None)

-- an unheld one with 0 attempts settles with the code and the failed hop; else one attempt less, retry at now + delay
abbrev pub fail_unheld : Unicast → ℕ → ℕ → ℕ → Turn Unicast
fail_unheld u code now delay =
    pick (eqb u.attempts_remaining 0) (Settles false (Code code) (Some u.next_hop))
    (Keeps (remade_of u u.priority (u.attempts_remaining - 1) (Retrying (now + delay)) u.deadline))

abbrev pub fail_by : Unicast → ℕ → ℕ → ℕ → Address → Turn Unicast
fail_by u code now delay Absent = fail_unheld u code now delay
fail_by u code now delay (Short n) = fail_held u code now
fail_by u code now delay (Extended n) = fail_held u code now

-- success, or any result after an ack, hands off
abbrev pub report_sent : Unicast → Bool → TxResult → ℕ → ℕ → Turn Unicast
report_sent u acked (Ok _) now delay = hand_off u acked now
report_sent u acked (Err code) now delay = pick acked (hand_off u acked now) (fail_by u code now delay u.poll_address)

-- a report is only taken on a send in the radio
abbrev pub report_by : Unicast → TxResult → ℕ → ℕ → Stage → Turn Unicast
report_by u r now delay Queued = Keeps u
report_by u r now delay (Transmitting acked) = report_sent u acked r now delay
report_by u r now delay (Retrying t) = Keeps u
report_by u r now delay AwaitingPoll = Keeps u
report_by u r now delay AwaitingApsAck = Keeps u

abbrev pub report_turn : TxResult → ℕ → ℕ → Unicast → Turn Unicast
report_turn r now delay u = report_by u r now delay u.stage

-- ---- tick

-- the failure of a send that was never handed off
abbrev pub unsent : Address → SendFailure
unsent Absent = HandoffTimeout
unsent (Short n) = IndirectExpired (Short n)
unsent (Extended n) = IndirectExpired (Extended n)

-- a retry with at ≤ now is queued
abbrev pub requeued : ℕ → Stage → Stage
requeued now Queued = Queued
requeued now (Transmitting k) = Transmitting k
requeued now (Retrying at) = pick (leb at now) Queued (Retrying at)
requeued now AwaitingPoll = AwaitingPoll
requeued now AwaitingApsAck = AwaitingApsAck

-- what a lapsed deadline makes of a send: nothing while it is in the radio
abbrev pub lapse_by : Unicast → Stage → Turn Unicast
lapse_by u Queued = Settles false (Failure (unsent u.poll_address)) None
lapse_by u (Transmitting k) = Keeps u
lapse_by u (Retrying t) = Settles false (Failure (unsent u.poll_address)) None
lapse_by u AwaitingPoll = Settles false (Failure (unsent u.poll_address)) None
lapse_by u AwaitingApsAck = Settles true (Failure ApsAckTimeout) None

abbrev pub lapse_turn : ℕ → Unicast → Turn Unicast
lapse_turn now u = pick (leb u.deadline now) (lapse_by u u.stage) (Keeps u)

-- first requeue, then the deadline
abbrev pub tick_turn : ℕ → Unicast → Turn Unicast
tick_turn now u = lapse_turn now (with_stage u (requeued now u.stage))

abbrev pub retries : ℕ → Stage → Bool
retries now Queued = false
retries now (Transmitting k) = false
retries now (Retrying at) = leb at now
retries now AwaitingPoll = false
retries now AwaitingApsAck = false

-- what a tick may change: the deadline has come, or a retry is due; every other send rests
abbrev pub stirs : ℕ → Unicast → Bool
stirs now u = leb u.deadline now || retries now u.stage

-- ---- under which addresses a device polls

abbrev pub is_short : ℕ → Option ℕ → Bool
is_short n None = false
is_short n (Some m) = eqb n m

abbrev pub is_long : ℕ → Option ℕ → Bool
is_long n None = false
is_long n (Some m) = eqb n m

abbrev pub under : Option ℕ → Option ℕ → Address → Bool
under eui nwk Absent = false
under eui nwk (Short n) = is_short n nwk
under eui nwk (Extended n) = is_long n eui

-- awaiting and unexpired, under either address
abbrev pub awaits : Option ℕ → Option ℕ → ℕ → Unicast → Bool
awaits eui nwk now u = is_awaiting u.stage && (ltb now u.deadline && under eui nwk u.poll_address)

-- ---- drop, cancel, copies

-- only those that await their poll under either address, as IndirectExpired
abbrev pub drop_turn : Option ℕ → ℕ → Unicast → Turn Unicast
drop_turn eui nwk u =
    pick (is_awaiting u.stage && under eui (Some nwk) u.poll_address) (settle_turn u (Failure (unsent u.poll_address))) (Keeps u)

abbrev pub cancel_turn : Unicast → Turn Unicast
cancel_turn u = settle_turn u (Failure Cancelled)

abbrev pub copies_by : ℕ → Option ℕ → Bool
copies_by i None = false
copies_by i (Some j) = eqb j i

-- a copy of the broadcast i
abbrev pub copies : ℕ → Unicast → Bool
copies i u = copies_by i u.copy_of

abbrev pub copy_turn : ℕ → Unicast → Turn Unicast
copy_turn i u = pick (copies i u) (cancel_turn u) (Keeps u)

-- ---- frame pending

-- the address that the send keeps a frame pending for: awaiting, queued or in the radio; its deadline is not asked
abbrev pub pending_by : Address → Stage → Address
pending_by a Queued = a
pending_by a (Transmitting k) = a
pending_by a (Retrying t) = Absent
pending_by a AwaitingPoll = a
pending_by a AwaitingApsAck = Absent

abbrev pub pending_head : UnicastHead → Address
pending_head h = pending_by h.poll_address h.stage

abbrev pub names : Address → Address → Bool
names a Absent = false
names a (Short n) = same_address (Short n) a
names a (Extended n) = same_address (Extended n) a

-- pending for the identical address
abbrev pub pends_head : Address → UnicastHead → Bool
pends_head a h = names a (pending_head h)

abbrev pub pends : Address → Unicast → Bool
pends a u = pends_head a (unicast_head u)

-- another send than i is pending for that address
abbrev pub beside_head : ℕ → Address → UnicastHead → Bool
beside_head i a h = not (eqb h.id i) && pends_head a h

abbrev pub beside : ℕ → Address → Unicast → Bool
beside i a u = beside_head i a (unicast_head u)

-- a copy of the broadcast i that is in the radio
abbrev pub sent_copy_head : ℕ → UnicastHead → Bool
sent_copy_head i h = copies_by i h.copy_of && is_sending h.stage

abbrev pub sent_copy : ℕ → Unicast → Bool
sent_copy i u = sent_copy_head i (unicast_head u)

-- what a scan by head seeks
abbrev pub sought_head : Sought → UnicastHead → Bool
sought_head (Pending a) h = pends_head a h
sought_head (Beside i a) h = beside_head i a h
sought_head (SentCopy i) h = sent_copy_head i h

abbrev pub sought : Sought → Unicast → Bool
sought s u = sought_head s (unicast_head u)

-- ---- what a sweep makes of a send, by its head

abbrev pub lapse_due : ℕ → UnicastHead → SendFailure → Bool → Due → Due
lapse_due now h f again d = pick (leb h.deadline now) (Finish again f) d

abbrev pub retry_due : ℕ → ℕ → Due
retry_due at now = pick (leb at now) Requeue Leave

abbrev pub tick_due : ℕ → UnicastHead → Stage → Due
tick_due now h Queued = lapse_due now h (unsent h.poll_address) false Leave
tick_due now h (Transmitting k) = Leave
tick_due now h (Retrying at) = lapse_due now h (unsent h.poll_address) false (retry_due at now)
tick_due now h AwaitingPoll = lapse_due now h (unsent h.poll_address) false Leave
tick_due now h AwaitingApsAck = lapse_due now h ApsAckTimeout true Leave

abbrev pub drop_due : Option ℕ → ℕ → UnicastHead → Due
drop_due eui nwk h =
    pick (is_awaiting h.stage && under eui (Some nwk) h.poll_address) (Finish false (unsent h.poll_address)) Leave

abbrev pub copy_due : ℕ → UnicastHead → Due
copy_due i h = pick (copies_by i h.copy_of) (Finish (is_acking h.stage) Cancelled) Leave

abbrev pub due_head : Which → UnicastHead → Due
due_head (Lapsed now) h = tick_due now h h.stage
due_head (Dropped eui nwk) h = drop_due eui nwk h
due_head (CopyOf i) h = copy_due i h

abbrev pub due_turn : Due → Unicast → Turn Unicast
due_turn Leave u = Keeps u
due_turn Requeue u = Keeps (with_stage u Queued)
due_turn (Finish again f) u = Settles again (Failure f) None

abbrev pub sweep_turn : Which → Unicast → Turn Unicast
sweep_turn which u = due_turn (due_head which (unicast_head u)) u

-- ---- what is asked of every send

-- unexpired and queued
abbrev pub ready_head : ℕ → UnicastHead → Bool
ready_head now h = is_queued h.stage && ltb now h.deadline

abbrev pub ready : ℕ → Unicast → Bool
ready now u = ready_head now (unicast_head u)

-- the better of a send and the best of those with a higher id: of higher priority, or else of the lower id
abbrev pub better_of : UnicastHead → Option (ℕ × Priority) → Option (ℕ × Priority)
better_of h None = Some (h.id, h.priority)
better_of h (Some (i, p)) = pick (ltb (rank_of h.priority) (rank_of p)) (Some (i, p)) (Some (h.id, h.priority))

abbrev pub best_head : ℕ → UnicastHead → Option (ℕ × Priority) → Option (ℕ × Priority)
best_head now h b = pick (ready_head now h) (better_of h b) b

-- the sooner of a send's wake and another: none in the radio; the retry time if sooner than the deadline
abbrev pub sooner_than : ℕ → ℕ → ℕ
sooner_than at d = pick (ltb at d) at d

abbrev pub wake_by : ℕ → Option ℕ → Stage → Option ℕ
wake_by d o Queued = sooner d o
wake_by d o (Transmitting k) = o
wake_by d o (Retrying at) = sooner (sooner_than at d) o
wake_by d o AwaitingPoll = sooner d o
wake_by d o AwaitingApsAck = sooner d o

abbrev pub wake_head : UnicastHead → Option ℕ → Option ℕ
wake_head h o = wake_by h.deadline o h.stage
