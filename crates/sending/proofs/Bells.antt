-- 01's boundary cases of one unicast, on either side of the bell, by computation: at any handles, and any id, priority and hop where these do not matter.
use Rattle.std.specs.Prelude.{None, Some, Err}
use Prim.Native.Nat.{ℕ}
use mathlib.Core.Path.{◌≡◌, refl}
use mathlib.Core.Bool.{true, false}
use mathlib.Core.List.{[], ◌∷◌}
use Rattle.records.specs.Numbers.{default_settings}
use Rattle.records.specs.declared.Priority.TheVariants.{UserNormal, UserHigh}
use Rattle.rows.specs.Moves.{at_first}
use Rattle.rows.specs.declared.Turn.TheVariants.{Keeps, Settles}
use Rattle.sending.specs.Types.{Address, Absent, Short, Priority, AckKey, Confirm, ApsAck, Queued, Transmitting, Retrying, AwaitingPoll, Unicast, HandoffTimeout, Success, Failure, Code}
use Rattle.sending.specs.Rules.{remade_of, with_stage, admitted_of, keyed, ack_turn, report_turn, tick_turn, beside}
use Rattle.sending.specs.Lists.{best_of}

module _ (id frame waiter : ℕ) (p : Priority) (hop : ℕ) where
  -- a unicast admitted at 0 with the first settings
  abbrev sent : Confirm → Address → Unicast
  sent k a = admitted_of id frame waiter p k hop a None default_settings 0 None

  -- C1: a dequeue at 7999 gives it, at 8000 nothing, and a tick at 8000 fails it
  pub c1-before : (k : Confirm) → best_of 7999 (sent k Absent ∷ []) ≡ Some (id, p)
  c1-before k = refl

  pub c1-after : (k : Confirm) → best_of 8000 (sent k Absent ∷ []) ≡ None
  c1-after k = refl

  pub c1-fails : (k : Confirm) → tick_turn 8000 (sent k Absent) ≡ Settles false (Failure HandoffTimeout) None
  c1-fails k = refl

  -- C3: an ack in the radio, then a failed report: one success, and no handoff
  pub c3-marks : (key : AckKey) (wait : ℕ) (a : Address) → ack_turn (with_stage (sent (ApsAck key wait) a) (Transmitting false)) ≡ Keeps (with_stage (sent (ApsAck key wait) a) (Transmitting true))
  c3-marks key wait a = refl

  pub c3-settles : (key : AckKey) (wait code now delay : ℕ) (a : Address) → report_turn (Err code) now delay (with_stage (sent (ApsAck key wait) a) (Transmitting true)) ≡ Settles false Success None
  c3-settles key wait code now delay a = refl

  -- C4: held and failed one before its deadline it awaits; at its deadline it is settled, with no hop
  pub c4-awaits : (k : Confirm) (n code delay : ℕ) → report_turn (Err code) 7679 delay (with_stage (sent k (Short n)) (Transmitting false)) ≡ Keeps (sent k (Short n))
  c4-awaits k n code delay = refl

  pub c4-settles : (k : Confirm) (n code delay : ℕ) → report_turn (Err code) 7680 delay (with_stage (sent k (Short n)) (Transmitting false)) ≡ Settles false (Code code) None
  c4-settles k n code delay = refl

  -- C5: failed at 100 with a delay of 50: a tick at 149 leaves it, and one at 150 queues it
  abbrev retry : Confirm → Unicast
  retry k = remade_of (sent k Absent) p 2 (Retrying 150) 8000

  pub c5-fails : (k : Confirm) (code : ℕ) → report_turn (Err code) 100 50 (with_stage (sent k Absent) (Transmitting false)) ≡ Keeps (retry k)
  c5-fails k code = refl

  pub c5-before : (k : Confirm) → tick_turn 149 (retry k) ≡ Keeps (retry k)
  c5-before k = refl

  pub c5-due : (k : Confirm) → tick_turn 150 (retry k) ≡ Keeps (with_stage (retry k) Queued)
  c5-due k = refl

module _ (frame waiter hop : ℕ) where
  -- C2: of equal priority id 0 goes before 1; at UserHigh id 1 goes first
  pub c2-oldest : (k : Confirm) → best_of 0 (sent 0 frame waiter UserNormal hop k Absent ∷ sent 1 frame waiter UserNormal hop k Absent ∷ []) ≡ Some (0, UserNormal)
  c2-oldest k = refl

  pub c2-highest : (k : Confirm) → best_of 0 (sent 0 frame waiter UserNormal hop k Absent ∷ sent 1 frame waiter UserHigh hop k Absent ∷ []) ≡ Some (1, UserHigh)
  c2-highest k = refl

  -- C6: ids 3 and 4 share a key, both in the radio: two acks mark only 3
  abbrev key : AckKey
  key = record { src = 7; destination_endpoint = None; cluster_id = None; profile_id = None; source_endpoint = None; counter = 9 }

  abbrev radio : ℕ → Unicast
  radio i = with_stage (sent i frame waiter UserNormal hop (ApsAck key 1000) Absent) (Transmitting false)

  abbrev marked : ℕ → Unicast
  marked i = with_stage (radio i) (Transmitting true)

  pub c6-marks : at_first (keyed key) ack_turn (at_first (keyed key) ack_turn (radio 3 ∷ radio 4 ∷ [])) ≡ marked 3 ∷ radio 4 ∷ []
  c6-marks = refl

  -- frame pending: beside id 0 another frame for its address is pending at any deadline, at one that has passed too
  abbrev awaiting : Confirm → ℕ → Unicast
  awaiting k d = remade_of (sent 1 frame waiter UserNormal hop k (Short 7)) UserNormal 3 AwaitingPoll d

  pub beside-at-any-deadline : (k : Confirm) (d : ℕ) → beside 0 (Short 7) (awaiting k d) ≡ true
  beside-at-any-deadline k d = refl
