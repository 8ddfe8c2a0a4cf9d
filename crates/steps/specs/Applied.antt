-- What one event of a trace does to the send tables, by cases: the effect of its call, a question's answer, or refusal 14.
use Rattle.std.specs.Prelude.{ℕ, ◌≡◌, List, Option, None, Some}
use Rattle.rows.specs.Moves.{any_of}
use Rattle.sending.specs.Rules.{pends}
use Rattle.unrouted.specs.Rules.{is_held}
use Rattle.model.specs.Model.{Model, Effect, denied, answers}
use Rattle.model.specs.Calls.{enqueue_unicast_of, enqueue_copy_of, enqueue_unrouted_of, enqueue_broadcast_of, dequeue_of, transmitted_of, poll_of, ack_of, retry_of, fail_of, route_of, delivered_of, drop_of, cancel_of, tick_of}
use Rattle.model.specs.Steps.{Call, EnqueueUnicast, EnqueueCopy, EnqueueUnrouted, EnqueueBroadcast, Dequeue, Transmitted, Poll, AckReceived, RetryDiscovery, FailUnrouted, RouteUnicasts, Delivered, DropIndirect, Cancel, Tick, HasUnrouted, HasAwaiting}
use Rattle.steps.specs.Types.{Settings, FieldMalformed, Resolved, Accepted, Replied, Event, OnSettings, OnUnicast, OnCopy, OnUnrouted, OnBroadcast, OnDequeue, OnReport, OnPoll, OnAck, OnRetry, OnFail, OnRoute, OnDelivered, OnDrop, OnCancel, OnTick, OnAbandon, OnNextWake, OnPair, OnLists, OnHasUnrouted, OnHasAwaiting, Malformed}

-- settings, a pair, an abandon, the next wake and the lists are not handled here: nothing is done
abbrev pub effect_of : Model → Settings → Event → List Resolved → Effect
effect_of m s (OnSettings x) rs = answers m Accepted
effect_of m s (OnUnicast now u) rs = enqueue_unicast_of m s u now
effect_of m s (OnCopy id now u) rs = enqueue_copy_of m s id u now
effect_of m s (OnUnrouted now u) rs = enqueue_unrouted_of m s u now
effect_of m s (OnBroadcast now u) rs = enqueue_broadcast_of m s u now
effect_of m s (OnDequeue now) rs = dequeue_of m now
effect_of m s (OnReport from id frame x now delay) rs = transmitted_of m from id frame x now delay
effect_of m s (OnPoll now eui nwk) rs = poll_of m eui nwk now
effect_of m s (OnAck k) rs = ack_of m k
effect_of m s (OnRetry d) rs = retry_of m d
effect_of m s (OnFail d) rs = fail_of m d
effect_of m s (OnRoute now d n) rs = route_of m s d now n rs
effect_of m s (OnDelivered k) rs = delivered_of m k
effect_of m s (OnDrop eui nwk) rs = drop_of m eui nwk
effect_of m s (OnCancel id) rs = cancel_of m id
effect_of m s (OnTick now) rs = tick_of m now
effect_of m s OnAbandon rs = answers m Accepted
effect_of m s OnNextWake rs = answers m Accepted
effect_of m s (OnPair eui nwk) rs = answers m Accepted
effect_of m s OnLists rs = answers m Accepted
effect_of m s (OnHasUnrouted d) rs = answers m (Replied (is_held d m.held))
effect_of m s (OnHasAwaiting a) rs = answers m (Replied (any_of (pends a) m.unicasts))
effect_of m s Malformed rs = denied m FieldMalformed

-- the call that it makes, where it makes one alone
abbrev pub call_for : Settings → Event → List Resolved → Option Call
call_for s (OnSettings x) rs = None
call_for s (OnUnicast now u) rs = Some (EnqueueUnicast s u now)
call_for s (OnCopy id now u) rs = Some (EnqueueCopy s id u now)
call_for s (OnUnrouted now u) rs = Some (EnqueueUnrouted s u now)
call_for s (OnBroadcast now u) rs = Some (EnqueueBroadcast s u now)
call_for s (OnDequeue now) rs = Some (Dequeue now)
call_for s (OnReport from id frame x now delay) rs = Some (Transmitted from id frame x now delay)
call_for s (OnPoll now eui nwk) rs = Some (Poll eui nwk now)
call_for s (OnAck k) rs = Some (AckReceived k)
call_for s (OnRetry d) rs = Some (RetryDiscovery d)
call_for s (OnFail d) rs = Some (FailUnrouted d)
call_for s (OnRoute now d n) rs = Some (RouteUnicasts s d now n rs)
call_for s (OnDelivered k) rs = Some (Delivered k)
call_for s (OnDrop eui nwk) rs = Some (DropIndirect eui nwk)
call_for s (OnCancel id) rs = Some (Cancel id)
call_for s (OnTick now) rs = Some (Tick now)
call_for s OnAbandon rs = None
call_for s OnNextWake rs = None
call_for s (OnPair eui nwk) rs = None
call_for s OnLists rs = None
call_for s (OnHasUnrouted d) rs = Some (HasUnrouted d)
call_for s (OnHasAwaiting a) rs = Some (HasAwaiting a)
call_for s Malformed rs = None

-- a kind that the run does not see to itself: none of settings, abandon, next wake, pair and lists
abbrev pub Plain : ℕ → Type 0
Plain k = ((((k ≡ 1 → ⊥) × (k ≡ 17 → ⊥)) × (k ≡ 18 → ⊥)) × (k ≡ 19 → ⊥)) × (k ≡ 20 → ⊥)

-- and none of 2 to 9
abbrev pub Later : ℕ → Type 0
Later k = (((((((k ≡ 2 → ⊥) × (k ≡ 3 → ⊥)) × (k ≡ 4 → ⊥)) × (k ≡ 5 → ⊥)) × (k ≡ 6 → ⊥)) × (k ≡ 7 → ⊥)) × (k ≡ 8 → ⊥)) × (k ≡ 9 → ⊥)
