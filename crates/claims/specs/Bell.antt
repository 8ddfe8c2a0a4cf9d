-- ON EITHER SIDE OF THE BELL: 01's boundary cases C1 to C9 as one table. Each line is a history of calls from fresh tables, and what its last call says and
-- tells. Whatever the handles and the other fields are that do not matter, the table holds: proofs/Bell proves it.
use Rattle.std.specs.Prelude.{ℕ, ◌≡◌, true, false, List, [], ◌∷◌, ◌++◌, None, Some, Ok, Err}
use Rattle.records.specs.Numbers.{default_settings}
use Rattle.rows.specs.Lists.{All}
use Rattle.model.specs.Model.{fresh_of}
use Rattle.model.specs.Steps.{Call, step_of, after}
use Rattle.model.specs.Steps.Call.{EnqueueUnicast, EnqueueCopy, EnqueueBroadcast, Dequeue, Transmitted, Poll, AckReceived, Delivered, Cancel, Tick}
use Rattle.model.specs.Steps.Reply.{Says}
use Rattle.claims.specs.CausesTypes.{Address, Absent, Short, Priority, UserNormal, UserHigh, AckKey, QuorumKey, Confirm, ApsAck, Schedule, PassiveAck, TxResult, HandoffTimeout, Cancelled, Success, Failure, Code, Entry, Action, HandedOff, Settled, InTheRadio, NewUnicast, NewBroadcast, FromUnicasts, FromBroadcasts, Answer, Denied, Accepted, Replied, NothingQueued, InFlight, Unicasting}

-- what does not matter: two handles, a priority, what confirms, a next hop, a device's short address, two keys, the wait for an ack, a code, a retry delay
pub record Given : Type 0 where
  pub frame : ℕ
  pub waiter : ℕ
  pub priority : Priority
  pub confirm : Confirm
  pub hop : ℕ
  pub device : ℕ
  pub key : AckKey
  pub quorum : QuorumKey
  pub wait : ℕ
  pub code : ℕ
  pub delay : ℕ

-- a line: from fresh tables with that first id, after the calls so far, the call says and tells that
pub record Line : Type 0 where
  pub first : ℕ
  pub so_far : List Call
  pub call : Call
  pub says : Answer
  pub tells : List Action

abbrev pub line : ℕ → List Call → Call → Answer → List Action → Line
line first so_far call says tells = record { first = first; so_far = so_far; call = call; says = says; tells = tells }

abbrev pub Holds : Line → Type 0
Holds l =
    ((step_of (after (fresh_of l.first) l.so_far) l.call).reply ≡ Says l.says) × ((step_of (after (fresh_of l.first) l.so_far) l.call).actions ≡ l.tells)

module _ (x : Given) where
  -- ---- the calls of the table, with the settings that 01 starts with

  abbrev pub unicast : Priority → Confirm → Address → NewUnicast
  unicast p k a = record { frame = x.frame; waiter = x.waiter; priority = p; confirm = k; next_hop = x.hop; poll_address = a }

  abbrev pub broadcast : Schedule → NewBroadcast
  broadcast s = record { frame = x.frame; waiter = x.waiter; priority = x.priority; schedule = s }

  abbrev pub enqueue : Priority → Confirm → Address → Call
  enqueue p k a = EnqueueUnicast default_settings (unicast p k a) 0

  -- a passive one with one copy, the next attempt at 0
  abbrev pub passive : Call
  passive = EnqueueBroadcast default_settings (broadcast (PassiveAck x.quorum 1 0)) 0

  abbrev pub reported : ℕ → TxResult → ℕ → ℕ → Call
  reported i r now delay = Transmitted FromUnicasts i x.frame r now delay

  abbrev pub broadcast_reported : TxResult → ℕ → Call
  broadcast_reported r now = Transmitted FromBroadcasts 0 x.frame r now 500

  -- ---- and their answers

  abbrev pub in_flight : ℕ → Answer
  in_flight i = InFlight i x.frame (Unicasting x.hop false)

  abbrev pub entry : ℕ → Entry
  entry i = record { id = i; waiter = x.waiter; frame = x.frame }

  -- C1: unicast at 0: dequeue at 7999 gives it; at 8000 nothing; tick 8000 fails it
  abbrev pub c1 : List Line
  c1 =
      let sent : List Call = enqueue x.priority x.confirm Absent ∷ [] in
      line 0 sent (Dequeue 7999) (in_flight 0) []
      ∷ line 0 sent (Dequeue 8000) NothingQueued []
      ∷ line 0 sent (Tick 7999) Accepted []
      ∷ line 0 sent (Tick 8000) Accepted (Settled (entry 0) (Failure HandoffTimeout) None ∷ [])
      ∷ []

  -- C2: equal priority: id 0 before 1; id 1 at UserHigh first
  abbrev pub c2 : List Line
  c2 =
      let first : Call = enqueue UserNormal x.confirm Absent in
      line 0 (first ∷ enqueue UserNormal x.confirm Absent ∷ []) (Dequeue 0) (in_flight 0) []
      ∷ line 0 (first ∷ enqueue UserHigh x.confirm Absent ∷ []) (Dequeue 0) (in_flight 1) []
      ∷ []

  -- C3: ack in the radio, then failed report: one success, no HandedOff
  abbrev pub c3 : List Line
  c3 =
      let sent : List Call = enqueue x.priority (ApsAck x.key x.wait) Absent ∷ Dequeue 0 ∷ [] in
      line 0 sent (AckReceived x.key) Accepted []
      ∷ line 0 (sent ++ (AckReceived x.key ∷ [])) (reported 0 (Err x.code) 10 x.delay) Accepted (Settled (entry 0) Success None ∷ [])
      ∷ []

  -- C4: held, failed at deadline − 1: awaits (a poll finds it); at deadline: settled, no hop
  abbrev pub c4 : List Line
  c4 =
      let polled : List Call =
      enqueue x.priority x.confirm (Short x.device) ∷ Poll None (Some x.device) 0 ∷ Dequeue 0 ∷ [] in
      line 0 polled (reported 0 (Err x.code) 7679 x.delay) Accepted []
      ∷ line 0 (polled ++ (reported 0 (Err x.code) 7679 x.delay ∷ [])) (Poll None (Some x.device) 7679) (Replied true) []
      ∷ line 0 polled (reported 0 (Err x.code) 7680 x.delay) Accepted (Settled (entry 0) (Code x.code) None ∷ [])
      ∷ []

  -- C5: failed at 100, delay 50, attempts left: tick 149 nothing, 150 queued
  abbrev pub c5 : List Line
  c5 =
      let failed : List Call = enqueue x.priority x.confirm Absent ∷ Dequeue 0 ∷ reported 0 (Err x.code) 100 50 ∷ [] in
      line 0 failed (Tick 149) Accepted []
      ∷ line 0 (failed ++ (Tick 149 ∷ [])) (Dequeue 149) NothingQueued []
      ∷ line 0 failed (Tick 150) Accepted []
      ∷ line 0 (failed ++ (Tick 150 ∷ [])) (Dequeue 150) (in_flight 0) []
      ∷ []

  -- C6: ids 3, 4 share a key, both in the radio: two acks mark only 3 (failed, 3 is a success and 4 is to be sent again)
  abbrev pub c6 : List Line
  c6 =
      let send : Call = enqueue x.priority (ApsAck x.key x.wait) Absent in
      let acked : List Call = send ∷ Dequeue 0 ∷ send ∷ Dequeue 0 ∷ AckReceived x.key ∷ AckReceived x.key ∷ [] in
      line 3 acked (reported 3 (Err x.code) 10 x.delay) Accepted (Settled (entry 3) Success None ∷ [])
      ∷ line 3 acked (reported 4 (Err x.code) 10 x.delay) Accepted []
      ∷ []

  -- C7: passive, one copy, next 0: failed at 10 with interval 500: tick 509 nothing, 510 that error
  abbrev pub c7 : List Line
  c7 =
      let failed : List Call = passive ∷ Tick 0 ∷ Dequeue 0 ∷ broadcast_reported (Err x.code) 10 ∷ [] in
      line 0 failed (Tick 509) Accepted []
      ∷ line 0 failed (Tick 510) Accepted (Settled (entry 0) (Code x.code) None ∷ [])
      ∷ []

  -- C8: broadcast cancel with a copy in the radio: 6; before it goes there, both are cancelled
  abbrev pub c8 : List Line
  c8 =
      let copied : List Call = passive ∷ EnqueueCopy default_settings 0 (unicast x.priority x.confirm Absent) 0 ∷ [] in
      line 0 copied (Cancel 0) Accepted (Settled (entry 0) (Failure Cancelled) None ∷ Settled (entry 1) (Failure Cancelled) None ∷ [])
      ∷ line 0 copied (Dequeue 0) (in_flight 1) []
      ∷ line 0 (copied ++ (Dequeue 0 ∷ [])) (Cancel 0) (Denied InTheRadio) []
      ∷ []

  -- C9: delivered before success: then success gives HandedOff, success
  abbrev pub c9 : List Line
  c9 =
      let lent : List Call = passive ∷ Tick 0 ∷ Dequeue 0 ∷ [] in
      line 0 lent (Delivered x.quorum) Accepted []
      ∷ line 0 (lent ++ (Delivered x.quorum ∷ [])) (broadcast_reported (Ok tt) 10) Accepted (HandedOff 0 x.waiter ∷ Settled (entry 0) Success None ∷ [])
      ∷ []

-- THE TABLE
abbrev pub bells : Given → List (List Line)
bells x = c1 x ∷ c2 x ∷ c3 x ∷ c4 x ∷ c5 x ∷ c6 x ∷ c7 x ∷ c8 x ∷ c9 x ∷ []

-- EVERY LINE OF IT HOLDS
abbrev pub EitherSide : Type 0
EitherSide = (x : Given) → All (All Holds) (bells x)
