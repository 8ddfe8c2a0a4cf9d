-- Every call as data, and what one call does: its outcome, by cases. Histories of calls, the trace and the claims are over this.
use Rattle.std.specs.Prelude.{ℕ, List, [], ◌∷◌, map, Option, None, Some}
use Rattle.records.specs.Pick.{pick}
use Rattle.rows.specs.Lists.{fold, insert_by}
use Rattle.rows.specs.Moves.{any_of}
use Rattle.model.specs.Types.{Address, AckKey, QuorumKey, Unicast, Destination, Settings, TxResult, Entry, Action, MapMalformed, Book, Shorts, Longs, NewUnicast, NewUnrouted, NewBroadcast, Resolved, Lender, Answer, Denied, Replied}
use Rattle.model.specs.Model.{Model, Effect}
use Rattle.model.specs.Calls.{enqueue_unicast_of, enqueue_copy_of, enqueue_unrouted_of, enqueue_broadcast_of, dequeue_of, transmitted_of, poll_of, ack_of, retry_of, fail_of, route_of, delivered_of, drop_of, cancel_of, tick_of, wake_of, abandoned, emptied}
use Rattle.sending.specs.Rules.{pends}
use Rattle.sending.specs.Members.{map_fits, member_of}
use Rattle.unrouted.specs.Rules.{is_held}
use Rattle.casting.specs.Rules.{awaited_of}

pub data Call : Type 0 where
  EnqueueUnicast : Settings → NewUnicast → ℕ → Call
  EnqueueCopy : Settings → ℕ → NewUnicast → ℕ → Call
  EnqueueUnrouted : Settings → NewUnrouted → ℕ → Call
  EnqueueBroadcast : Settings → NewBroadcast → ℕ → Call
  Dequeue : ℕ → Call
  Transmitted : Lender → ℕ → ℕ → TxResult → ℕ → ℕ → Call
  Poll : Option ℕ → Option ℕ → ℕ → Call
  AckReceived : AckKey → Call
  RetryDiscovery : ℕ → Call
  FailUnrouted : ℕ → Call
  RouteUnicasts : Settings → ℕ → ℕ → ℕ → List Resolved → Call
  Delivered : QuorumKey → Call
  DropIndirect : Option ℕ → ℕ → Call
  Cancel : ℕ → Call
  Tick : ℕ → Call
  Abandon : Call
  NextWake : Call
  Destinations : Call
  AwaitingQuorum : Call
  PollAddresses : List ℕ → List ℕ → Call
  HasUnrouted : ℕ → Call
  HasAwaiting : Address → Call

-- what a call says besides its actions: an answer, a time, addresses, keys, two sets, or the sends that are abandoned
pub data Reply : Type 0 where
  Says : Answer → Reply
  Wakes : Option ℕ → Reply
  Lists : List ℕ → Reply
  Keys : List QuorumKey → Reply
  Matches : List ℕ → List ℕ → Reply
  Leaves : List Entry → Reply

pub record Outcome : Type 0 where
  pub model : Model
  pub reply : Reply
  pub actions : List Action

-- ---- the questions

-- held destinations, rising
abbrev pub destinations_of : Model → List ℕ
destinations_of m = map (λ (d : Destination). d.address) m.held

-- a source-match set: what each send puts into it, rising, each once
abbrev pub adding : Option ℕ → List ℕ → List ℕ
adding None xs = xs
adding (Some x) xs = insert_by (λ (y : ℕ). y) x xs

abbrev pub members_of : Book → List ℕ → List ℕ → List Unicast → List ℕ
members_of book es ns us = fold (λ (u : Unicast) (xs : List ℕ). adding (member_of book es ns u) xs) [] us

-- 11 where the slices are no address map
abbrev pub matches_of : Model → List ℕ → List ℕ → Reply
matches_of m es ns = pick (map_fits es ns) (Matches (members_of Shorts es ns m.unicasts) (members_of Longs es ns m.unicasts)) (Says (Denied MapMalformed))

-- ---- one step

abbrev pub acts : Effect → Outcome
acts e = record { model = e.model; reply = Says e.answer; actions = e.actions }

abbrev pub asks : Model → Reply → Outcome
asks m r = record { model = m; reply = r; actions = [] }

abbrev pub step_of : Model → Call → Outcome
step_of m (EnqueueUnicast s u now) = acts (enqueue_unicast_of m s u now)
step_of m (EnqueueCopy s broadcast u now) = acts (enqueue_copy_of m s broadcast u now)
step_of m (EnqueueUnrouted s u now) = acts (enqueue_unrouted_of m s u now)
step_of m (EnqueueBroadcast s b now) = acts (enqueue_broadcast_of m s b now)
step_of m (Dequeue now) = acts (dequeue_of m now)
step_of m (Transmitted from id frame x now delay) = acts (transmitted_of m from id frame x now delay)
step_of m (Poll eui nwk now) = acts (poll_of m eui nwk now)
step_of m (AckReceived k) = acts (ack_of m k)
step_of m (RetryDiscovery d) = acts (retry_of m d)
step_of m (FailUnrouted d) = acts (fail_of m d)
step_of m (RouteUnicasts s d now n rs) = acts (route_of m s d now n rs)
step_of m (Delivered k) = acts (delivered_of m k)
step_of m (DropIndirect eui nwk) = acts (drop_of m eui nwk)
step_of m (Cancel id) = acts (cancel_of m id)
step_of m (Tick now) = acts (tick_of m now)
step_of m Abandon = record { model = emptied m; reply = Leaves (abandoned m); actions = [] }
step_of m NextWake = asks m (Wakes (wake_of m))
step_of m Destinations = asks m (Lists (destinations_of m))
step_of m AwaitingQuorum = asks m (Keys (awaited_of m.broadcasts))
step_of m (PollAddresses es ns) = asks m (matches_of m es ns)
step_of m (HasUnrouted d) = asks m (Says (Replied (is_held d m.held)))
step_of m (HasAwaiting a) = asks m (Says (Replied (any_of (pends a) m.unicasts)))

-- the tables after a list of calls
abbrev pub after : Model → List Call → Model
after m [] = m
after m (c ∷ cs) = after (step_of m c).model cs
