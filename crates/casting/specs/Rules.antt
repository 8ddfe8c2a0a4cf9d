-- 01's rules of broadcasts, on one broadcast and on the list of them.
use Rattle.tables.specs.declared.Counts.{Counts}
use Rattle.std.specs.Prelude.{ℕ, ◌+◌, ◌-◌, Bool, true, false, not, ◌&&◌, ◌||◌, List, [], ◌∷◌, ltb, leb, eqb, Option, None, Some, Ok, Err, Result}
use Rattle.records.specs.Pick.{pick}
use Rattle.records.specs.Priorities.{rank_of}
use Rattle.records.specs.Records.{broadcast_id}
use Rattle.records.specs.Same.{same_quorum_key}
use Rattle.records.specs.Times.{sooner}
use Rattle.rows.specs.Lists.{fold, lookup}
use Rattle.rows.specs.declared.Turn.{Turn}
use Rattle.rows.specs.declared.Turn.TheVariants.{Keeps, HandsOff, Settles}
use Rattle.tables.specs.Layouts.{broadcast_head}
use Rattle.casting.specs.Types.{Priority, QuorumKey, Schedule, Once, PassiveAck, FixedInterval, CopyState, Idle, CopyQueued, CopyTransmitting, Broadcast, TxResult, HandoffTimeout, BroadcastQuorumNotReached, Cancelled, Verdict, Success, Failure, Code, Refusal, NoSuchSend, InTheRadio, NotInTheRadio, OtherFrame, BroadcastHead}

-- ---- on one broadcast

abbrev pub remade : Broadcast → Schedule → CopyState → Bool → Bool → Option ℕ → Broadcast
remade b s c handed heard last =
    record {
      id = b.id;
      frame = b.frame;
      waiter = b.waiter;
      priority = b.priority;
      schedule = s;
      copy = c;
      handed_off = handed;
      quorum_heard = heard;
      last_error = last;
      deadline = b.deadline;
    }

-- once starts queued; the others start idle
abbrev pub first_copy : Schedule → CopyState
first_copy Once = CopyQueued
first_copy (PassiveAck k n t) = Idle
first_copy (FixedInterval i n t) = Idle

-- its deadline: now + handoff timeout
abbrev pub admitted_of : ℕ → ℕ → ℕ → Priority → Schedule → ℕ → ℕ → Broadcast
admitted_of id frame waiter priority schedule now handoff =
    record {
      id = id;
      frame = frame;
      waiter = waiter;
      priority = priority;
      schedule = schedule;
      copy = first_copy schedule;
      handed_off = false;
      quorum_heard = false;
      last_error = None;
      deadline = now + handoff;
    }

-- refusal 3: a repeating broadcast with 0 copies
abbrev pub no_copies : Schedule → Bool
no_copies Once = false
no_copies (PassiveAck k n t) = eqb n 0
no_copies (FixedInterval i n t) = eqb n 0

abbrev pub in_radio : CopyState → Bool
in_radio Idle = false
in_radio CopyQueued = false
in_radio CopyTransmitting = true

abbrev pub is_queued : CopyState → Bool
is_queued Idle = false
is_queued CopyQueued = true
is_queued CopyTransmitting = false

-- its copy goes to the radio
abbrev pub lent : Broadcast → Broadcast
lent b = remade b b.schedule CopyTransmitting b.handed_off b.quorum_heard b.last_error

abbrev pub dequeue_turn : Broadcast → Turn Broadcast
dequeue_turn b = Keeps (lent b)

-- a settled one repeats its handoff first if it was handed off
abbrev pub cancel_turn : Broadcast → Turn Broadcast
cancel_turn b = Settles b.handed_off (Failure Cancelled) None

abbrev pub result_verdict : TxResult → Verdict
result_verdict (Ok _) = Success
result_verdict (Err c) = Code c

-- a report on a repeating one, whose schedule goes on as s: a success is a handoff, told the first time; a failure is kept as the last error; with
-- quorum heard and a copy handed off it is over
abbrev pub repeat_turn : Broadcast → Schedule → TxResult → Turn Broadcast
repeat_turn b s (Ok _) =
    pick b.quorum_heard (Settles true Success None)
    (pick b.handed_off (Keeps (remade b s Idle true b.quorum_heard b.last_error))
    (HandsOff (remade b s Idle true b.quorum_heard b.last_error)))
repeat_turn b s (Err c) =
    pick (b.quorum_heard && b.handed_off) (Settles true Success None)
    (Keeps (remade b s Idle b.handed_off b.quorum_heard (Some c)))

-- once is over; the others go on, the next attempt at now + the report's delay, or + its own interval
abbrev pub report_by : Broadcast → TxResult → ℕ → ℕ → Schedule → Turn Broadcast
report_by b x now delay Once = Settles b.handed_off (result_verdict x) None
report_by b x now delay (PassiveAck k n t) = repeat_turn b (PassiveAck k n (now + delay)) x
report_by b x now delay (FixedInterval i n t) = repeat_turn b (FixedInterval i n (now + i)) x

abbrev pub report_turn : TxResult → ℕ → ℕ → Broadcast → Turn Broadcast
report_turn x now delay b = report_by b x now delay b.schedule

-- quorum was heard: marked, or over if it was handed off and is out of the radio
abbrev pub delivered_turn : Broadcast → Turn Broadcast
delivered_turn b =
    pick (in_radio b.copy || not b.handed_off) (Keeps (remade b b.schedule b.copy b.handed_off true b.last_error))
    (Settles true Success None)

-- the verdict of one that was handed off and has no more time or copies. Once is over at its report, so it is never asked (the Rust: unreachable)
abbrev pub over_verdict : Schedule → Verdict
over_verdict Once = Failure HandoffTimeout
over_verdict (PassiveAck k n t) = Failure BroadcastQuorumNotReached
over_verdict (FixedInterval i n t) = Success

-- the last radio error. A copy that was spent and not handed off left one, so none is never asked (the Rust: unwrap)
abbrev pub last_verdict : Option ℕ → Verdict
last_verdict None = Code 0
last_verdict (Some c) = Code c

-- no copy is left
abbrev pub over_turn : Broadcast → Turn Broadcast
over_turn b = pick b.handed_off (Settles true (over_verdict b.schedule) None) (Settles false (last_verdict b.last_error) None)

-- not over: the deadline is tested
abbrev pub lapse_turn : ℕ → Broadcast → Turn Broadcast
lapse_turn now b =
    pick (leb b.deadline now)
    (pick b.handed_off (Settles true (over_verdict b.schedule) None) (Settles false (Failure HandoffTimeout) None))
    (Keeps b)

-- an idle one with n copies left, the next at t, whose schedule with one less is s
abbrev pub due_turn : ℕ → Broadcast → Schedule → ℕ → ℕ → Turn Broadcast
due_turn now b s n t =
    pick (leb t now)
    (pick (eqb n 0) (over_turn b) (lapse_turn now (remade b s CopyQueued b.handed_off b.quorum_heard b.last_error)))
    (lapse_turn now b)

abbrev pub idle_turn : ℕ → Broadcast → Schedule → Turn Broadcast
idle_turn now b Once = lapse_turn now b
idle_turn now b (PassiveAck k n t) = due_turn now b (PassiveAck k (n - 1) t) n t
idle_turn now b (FixedInterval i n t) = due_turn now b (FixedInterval i (n - 1) t) n t

abbrev pub tick_by : ℕ → Broadcast → CopyState → Turn Broadcast
tick_by now b Idle = idle_turn now b b.schedule
tick_by now b CopyQueued = lapse_turn now b
tick_by now b CopyTransmitting = Keeps b

abbrev pub tick_turn : ℕ → Broadcast → Turn Broadcast
tick_turn now b = tick_by now b b.copy

-- ---- what a scan asks of one

-- when an idle one's next copy is due, if that is before d
abbrev pub attempt_by : ℕ → Schedule → ℕ
attempt_by d Once = d
attempt_by d (PassiveAck k n t) = pick (leb t d) t d
attempt_by d (FixedInterval i n t) = pick (leb t d) t d

-- what it wakes for: its deadline, or an idle one's next attempt if sooner; nothing for one in the radio
abbrev pub wake_by : CopyState → BroadcastHead → Option ℕ → Option ℕ
wake_by Idle h o = sooner (attempt_by h.deadline h.schedule) o
wake_by CopyQueued h o = sooner h.deadline o
wake_by CopyTransmitting h o = o

abbrev pub wake_head : BroadcastHead → Option ℕ → Option ℕ
wake_head h o = wake_by h.copy h o

-- a tick finds something to do
abbrev pub stirs_by : ℕ → BroadcastHead → CopyState → Bool
stirs_by now h Idle = leb (attempt_by h.deadline h.schedule) now
stirs_by now h CopyQueued = leb h.deadline now
stirs_by now h CopyTransmitting = false

abbrev pub stirs_head : ℕ → BroadcastHead → Bool
stirs_head now h = stirs_by now h h.copy

-- the next attempt of a repeating one has come
abbrev pub attempt_due : ℕ → Schedule → Bool
attempt_due now Once = false
attempt_due now (PassiveAck k n t) = leb t now
attempt_due now (FixedInterval i n t) = leb t now

abbrev pub copy_due : ℕ → Schedule → CopyState → Bool
copy_due now s Idle = attempt_due now s
copy_due now s CopyQueued = false
copy_due now s CopyTransmitting = false

-- what a tick may change: the deadline has come, in the radio or not, or an idle one's next attempt has; every other one rests
abbrev pub may_stir : ℕ → Broadcast → Bool
may_stir now b = leb b.deadline now || copy_due now b.schedule b.copy

-- a copy that is queued, and whose deadline d has not come
abbrev pub ready_by : ℕ → CopyState → ℕ → Bool
ready_by now c d = pick (is_queued c) (ltb now d) false

abbrev pub ready : ℕ → Broadcast → Bool
ready now b = ready_by now b.copy b.deadline

-- the better of one with this id and rank, and the best of those behind it: these have higher ids
abbrev pub better : ℕ → ℕ → Option (ℕ × ℕ) → Option (ℕ × ℕ)
better id rank None = Some (id, rank)
better id rank (Some (j, s)) = pick (leb s rank) (Some (id, rank)) (Some (j, s))

abbrev pub best_head : ℕ → BroadcastHead → Option (ℕ × ℕ) → Option (ℕ × ℕ)
best_head now h o = pick (ready_by now h.copy h.deadline) (better h.id (rank_of h.priority) o) o

-- it is repeated until the quorum for that key is heard
abbrev pub keyed_by : QuorumKey → Schedule → Bool
keyed_by k Once = false
keyed_by k (PassiveAck l n t) = same_quorum_key l k
keyed_by k (FixedInterval i n t) = false

abbrev pub keyed : QuorumKey → Broadcast → Bool
keyed k b = keyed_by k b.schedule

-- the key whose quorum it waits for, until it is heard
abbrev pub awaited_by : Bool → Schedule → Option QuorumKey
awaited_by heard Once = None
awaited_by heard (PassiveAck k n t) = pick heard None (Some k)
awaited_by heard (FixedInterval i n t) = None

abbrev pub awaited_head : BroadcastHead → Option QuorumKey
awaited_head h = awaited_by h.quorum_heard h.schedule

-- ---- on the list

-- the best queued one
abbrev pub best_step : ℕ → Broadcast → Option (ℕ × ℕ) → Option (ℕ × ℕ)
best_step now b o = best_head now (broadcast_head b) o

abbrev pub best_of : ℕ → List Broadcast → Option (ℕ × ℕ)
best_of now bs = fold (best_step now) None bs

-- next wake
abbrev pub wake_step : Broadcast → Option ℕ → Option ℕ
wake_step b o = wake_head (broadcast_head b) o

abbrev pub wake_of : List Broadcast → Option ℕ
wake_of bs = fold wake_step None bs

-- the keys, by id, whose quorum is awaited
abbrev pub listed : Option QuorumKey → List QuorumKey → List QuorumKey
listed None ks = ks
listed (Some k) ks = k ∷ ks

abbrev pub awaited_of : List Broadcast → List QuorumKey
awaited_of [] = []
awaited_of (b ∷ bs) = listed (awaited_head (broadcast_head b)) (awaited_of bs)

-- the broadcast is in the radio
abbrev pub in_radio_by : Option Broadcast → Bool
in_radio_by None = false
in_radio_by (Some b) = in_radio b.copy

abbrev pub is_transmitting : ℕ → List Broadcast → Bool
is_transmitting id bs = in_radio_by (lookup broadcast_id id bs)

-- why a report is refused: no such broadcast, or not in the radio, or another frame
abbrev pub report_bar : ℕ → Option Broadcast → Option Refusal
report_bar frame None = Some NoSuchSend
report_bar frame (Some b) = pick (in_radio b.copy) (pick (eqb b.frame frame) None (Some OtherFrame)) (Some NotInTheRadio)

-- why a cancel is refused: no such broadcast, or in the radio
abbrev pub cancel_bar : Option Broadcast → Option Refusal
cancel_bar None = Some NoSuchSend
cancel_bar (Some b) = pick (in_radio b.copy) (Some InTheRadio) None

abbrev pub refusal_of : Result Counts Refusal → Option Refusal
refusal_of (Err x) = Some x
refusal_of (Ok c) = None

-- the frame that is lent to the radio
abbrev pub lent_of : Option Broadcast → Option ℕ
lent_of None = None
lent_of (Some b) = Some b.frame
