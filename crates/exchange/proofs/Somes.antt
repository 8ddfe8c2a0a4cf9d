-- Every event is answered with a byte at the least, so that the place after its answers is not 0. Assumes nothing.
use Prim.Native.Nat.{◌≤◌}
use native.Mathlib.Omega.{arith}
use mathlib.Core.Bool.{Bool, true, false}
use mathlib.Core.List.{List, [], ◌∷◌, ◌++◌, map}
use lib.Dec.{ltb}
use lib.ListN.{length}
use Rattle.records.specs.Pick.{pick}
use Rattle.model.specs.Steps.{EnqueueUnicast, EnqueueCopy, EnqueueUnrouted, EnqueueBroadcast, Dequeue, Transmitted, Poll, AckReceived, RetryDiscovery, FailUnrouted, RouteUnicasts, Delivered, DropIndirect, Cancel, Tick, Abandon, NextWake, Destinations, AwaitingQuorum, PollAddresses, HasUnrouted, HasAwaiting, Reply, Says, Wakes, Lists, Keys, Matches, Leaves, Outcome, step_of}
use Rattle.model.specs.declared.Answer.TheVariants.{Denied, Accepted, Issued, Replied, NothingQueued, InFlight}
use Rattle.answers.specs.Items.{items_bytes, action_item}
use Rattle.answers.proofs.Lists.{items-length}
use Rattle.listings.specs.Maps.{keys_with}
use Rattle.exchange.specs.Types.{Resolved, NoPlace, Item, Refused, Done, Event, OnSettings, OnUnicast, OnCopy, OnUnrouted, OnBroadcast, OnDequeue, OnReport, OnPoll, OnAck, OnRetry, OnFail, OnRoute, OnDelivered, OnDrop, OnCancel, OnTick, OnAbandon, OnNextWake, OnPair, OnLists, OnHasUnrouted, OnHasAwaiting, Malformed}
use Rattle.exchange.specs.World.{World, Step, with_pair, said, refused, told, step_on}

-- what ends with 129
ends-done : (is js : List Item) → 1 ≤ length (items_bytes js) → 1 ≤ length (items_bytes (is ++ js))
ends-done is js h =
    let a = items-length is js in
    omega arith

done : (is : List Item) → 1 ≤ length (items_bytes (is ++ (Done ∷ [])))
done is = ends-done is (Done ∷ []) (omega arith)

-- a refusal alone, or what is said, told and done
by-reply : (r : Reply) (is : List Item) → 1 ≤ length (items_bytes (pick (refused r) (said r) (said r ++ (is ++ (Done ∷ [])))))
by-reply (Says (Denied x)) is = omega arith
by-reply (Says Accepted) is = done is
by-reply (Says (Issued i)) is = omega arith
by-reply (Says (Replied b)) is = omega arith
by-reply (Says NothingQueued) is = done is
by-reply (Says (InFlight i f t)) is = omega arith
by-reply (Wakes t) is = ends-done (said (Wakes t)) (is ++ (Done ∷ [])) (done is)
by-reply (Lists ds) is = ends-done (said (Lists ds)) (is ++ (Done ∷ [])) (done is)
by-reply (Keys ks) is = ends-done (said (Keys ks)) (is ++ (Done ∷ [])) (done is)
by-reply (Matches ss ls) is = ends-done (said (Matches ss ls)) (is ++ (Done ∷ [])) (done is)
by-reply (Leaves es) is = ends-done (said (Leaves es)) (is ++ (Done ∷ [])) (done is)

told-some : (o : Outcome) → 1 ≤ length (items_bytes (told o))
told-some o = by-reply o.reply (map action_item o.actions)

pair-some : (b : Bool) (w v : World) → 1 ≤ length (items_bytes (pick {A = Step} b (record { world = w; items = Refused NoPlace ∷ [] }) (record { world = v; items = Done ∷ [] })).items)
pair-some true w v = omega arith
pair-some false w v = omega arith

module _ (w : World) (rs : List Resolved) where
  pub items-some : (e : Event) → 1 ≤ length (items_bytes (step_on w e rs).items)
  items-some (OnSettings x) = omega arith
  items-some (OnUnicast now u) = told-some (step_of w.model (EnqueueUnicast w.settings u now))
  items-some (OnCopy id now u) = told-some (step_of w.model (EnqueueCopy w.settings id u now))
  items-some (OnUnrouted now u) = told-some (step_of w.model (EnqueueUnrouted w.settings u now))
  items-some (OnBroadcast now u) = told-some (step_of w.model (EnqueueBroadcast w.settings u now))
  items-some (OnDequeue now) = told-some (step_of w.model (Dequeue now))
  items-some (OnReport from id frame x now delay) = told-some (step_of w.model (Transmitted from id frame x now delay))
  items-some (OnPoll now eui nwk) = told-some (step_of w.model (Poll eui nwk now))
  items-some (OnAck k) = told-some (step_of w.model (AckReceived k))
  items-some (OnRetry d) = told-some (step_of w.model (RetryDiscovery d))
  items-some (OnFail d) = told-some (step_of w.model (FailUnrouted d))
  items-some (OnRoute now d n) = told-some (step_of w.model (RouteUnicasts w.settings d now n rs))
  items-some (OnDelivered k) = told-some (step_of w.model (Delivered k))
  items-some (OnDrop eui nwk) = told-some (step_of w.model (DropIndirect eui nwk))
  items-some (OnCancel id) = told-some (step_of w.model (Cancel id))
  items-some (OnTick now) = told-some (step_of w.model (Tick now))
  items-some OnAbandon = told-some (step_of w.model (Abandon))
  items-some OnNextWake = told-some (step_of w.model (NextWake))
  items-some (OnPair x y) = pair-some (ltb 32 (length (keys_with x w.longs))) w (with_pair w x y)
  items-some OnLists =
      ends-done (said (step_of w.model Destinations).reply) _ (ends-done (said (step_of w.model AwaitingQuorum).reply) _
      (done (said (step_of w.model (PollAddresses w.longs w.shorts)).reply)))
  items-some (OnHasUnrouted d) = told-some (step_of w.model (HasUnrouted d))
  items-some (OnHasAwaiting a) = told-some (step_of w.model (HasAwaiting a))
  items-some Malformed = omega arith
