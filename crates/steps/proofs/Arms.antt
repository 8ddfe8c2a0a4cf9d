-- What is known of an event where a match has no arm for it: what its body is not, so that its event is Malformed. Assumes nothing.
use Rattle.std.specs.Prelude.{Option, None, Some}
use Prim.Native.Nat.{ℕ}
use mathlib.Core.Path.{◌≡◌, refl}
use mathlib.Core.Bool.{Bool, true, false}
use mathlib.Core.List.{List}
use lib.Dec.{ltb}
use Rattle.records.specs.Pick.{pick}
use Rattle.records.specs.declared.Address.TheVariants.{Absent, Short, Extended}
use Rattle.events.specs.declared.Event.{Event}
use Rattle.fields.specs.Bytes.{number}
use Rattle.fields.specs.Parts.{priority_by, address_at, key_at, confirm_at, schedule_at, opt16_by, opt64_by, result_by, lender_by}
use Rattle.events.specs.Arrivals.{unicast_at, unicast_event, unicast_of, copy_event, copy_of, unrouted_with, unrouted_of, broadcast_with, broadcast_of}
use Rattle.events.specs.Signals.{report_with, report_of, poll_with, poll_of, ack_event, ack_of, drop_with, drop_of, awaiting_event, has_awaiting_of}
use Rattle.events.specs.Routes.{entries_right, route_of}
use Rattle.events.specs.declared.Event.TheVariants.{OnUnicast, OnCopy, OnUnrouted, OnBroadcast, OnReport, OnPoll, OnAck, OnRoute, OnDrop, OnHasAwaiting, Malformed}
use Rattle.records.specs.declared.AckKey.{AckKey}
use Rattle.records.specs.declared.Address.{Address}
use Rattle.records.specs.Types.{TxResult}
use Rattle.model.specs.declared.NewUnicast.{NewUnicast}
use Rattle.model.specs.declared.NewUnrouted.{NewUnrouted}
use Rattle.model.specs.declared.NewBroadcast.{NewBroadcast}
use Rattle.model.specs.declared.Lender.{Lender}
use Rattle.records.specs.declared.Priority.{Priority}
use Rattle.records.specs.declared.Confirm.{Confirm}
use Rattle.records.specs.declared.Schedule.{Schedule}

-- what the arms before have ruled out of an event, by its kind
module _ (e : Event) where
  abbrev NoUnicast : Type 0
  NoUnicast = (t : ℕ) (u : NewUnicast) → e ≡ OnUnicast t u → ⊥

  abbrev NoCopy : Type 0
  NoCopy = (id t : ℕ) (u : NewUnicast) → e ≡ OnCopy id t u → ⊥

  abbrev NoUnrouted : Type 0
  NoUnrouted = (t : ℕ) (u : NewUnrouted) → e ≡ OnUnrouted t u → ⊥

  abbrev NoBroadcast : Type 0
  NoBroadcast = (t : ℕ) (u : NewBroadcast) → e ≡ OnBroadcast t u → ⊥

  abbrev NoReport : Type 0
  NoReport = (l : Lender) (id f : ℕ) (x : TxResult) (t d : ℕ) → e ≡ OnReport l id f x t d → ⊥

  abbrev NoPoll : Type 0
  NoPoll = (t : ℕ) (x : Option ℕ) (y : Option ℕ) → e ≡ OnPoll t x y → ⊥

  abbrev NoAck : Type 0
  NoAck = (k : AckKey) → e ≡ OnAck k → ⊥

  abbrev NoRoute : Type 0
  NoRoute = (t d n : ℕ) → e ≡ OnRoute t d n → ⊥

  abbrev NoDrop : Type 0
  NoDrop = (x : Option ℕ) (n : ℕ) → e ≡ OnDrop x n → ⊥

  abbrev NoAwaiting : Type 0
  NoAwaiting = (a : Address) → e ≡ OnHasAwaiting a → ⊥

-- where a kind's body is not in its form, its event is Malformed

unicast-by : {e : Event} (t : ℕ) (u : Option NewUnicast) → e ≡ unicast_event t u → NoUnicast e → unicast_event t u ≡ Malformed
unicast-by t (Some u) p h = absurd (h t u p)
unicast-by t None p h = refl

copy-by : {e : Event} (id t : ℕ) (u : Option NewUnicast) → e ≡ copy_event id t u → NoCopy e → copy_event id t u ≡ Malformed
copy-by id t (Some u) p h = absurd (h _ _ _ p)
copy-by id t None p h = refl

unrouted-by : {e : Event} (t f w d : ℕ) (p : Option Priority) (c : Option Confirm) → e ≡ unrouted_with t f w d p c → NoUnrouted e → unrouted_with t f w d p c ≡ Malformed
unrouted-by t f w d (Some p) (Some c) q h = absurd (h _ _ q)
unrouted-by t f w d (Some p) None q h = refl
unrouted-by t f w d None c q h = refl

broadcast-by : {e : Event} (t f w : ℕ) (p : Option Priority) (s : Option Schedule) → e ≡ broadcast_with t f w p s → NoBroadcast e → broadcast_with t f w p s ≡ Malformed
broadcast-by t f w (Some p) (Some s) q h = absurd (h _ _ q)
broadcast-by t f w (Some p) None q h = refl
broadcast-by t f w None s q h = refl

report-by : {e : Event} (l : Option Lender) (id f : ℕ) (x : Option TxResult) (t d : ℕ) → e ≡ report_with l id f x t d → NoReport e → report_with l id f x t d ≡ Malformed
report-by (Some l) id f (Some x) t d p h = absurd (h _ _ _ _ _ _ p)
report-by (Some l) id f None t d p h = refl
report-by None id f x t d p h = refl

poll-by : {e : Event} (t : ℕ) (x : Option (Option ℕ)) (y : Option (Option ℕ)) → e ≡ poll_with t x y → NoPoll e → poll_with t x y ≡ Malformed
poll-by t (Some e) (Some n) p h = absurd (h _ _ _ p)
poll-by t (Some e) None p h = refl
poll-by t None y p h = refl

ack-by : {e : Event} (k : Option AckKey) → e ≡ ack_event k → NoAck e → ack_event k ≡ Malformed
ack-by (Some k) p h = absurd (h _ p)
ack-by None p h = refl

route-by : {e : Event} (a b : Bool) (t d n : ℕ) → e ≡ pick a Malformed (pick b (OnRoute t d n) Malformed) → NoRoute e → pick a Malformed (pick b (OnRoute t d n) Malformed) ≡ Malformed
route-by true b t d n p h = refl
route-by false true t d n p h = absurd (h _ _ _ p)
route-by false false t d n p h = refl

drop-by : {e : Event} (x : Option (Option ℕ)) (n : ℕ) → e ≡ drop_with x n → NoDrop e → drop_with x n ≡ Malformed
drop-by (Some e) n p h = absurd (h _ _ p)
drop-by None n p h = refl

awaiting-by : {e : Event} (a : Option Address) → e ≡ awaiting_event a → NoAwaiting e → awaiting_event a ≡ Malformed
awaiting-by (Some Absent) p h = refl
awaiting-by (Some (Short x)) p h = absurd (h _ p)
awaiting-by (Some (Extended x)) p h = absurd (h _ p)
awaiting-by None p h = refl

module _ {e : Event} (b : List ℕ) where
  pub unicast-past : e ≡ unicast_of b → NoUnicast e → unicast_of b ≡ Malformed
  unfolding unicast_of
  unicast-past p h = unicast-by (number 8 0 b) (unicast_at 0 b) p h

  pub copy-past : e ≡ copy_of b → NoCopy e → copy_of b ≡ Malformed
  unfolding copy_of
  copy-past p h = copy-by (number 4 0 b) (number 8 4 b) (unicast_at 4 b) p h

  pub unrouted-past : e ≡ unrouted_of b → NoUnrouted e → unrouted_of b ≡ Malformed
  unfolding unrouted_of
  unrouted-past p h = unrouted-by (number 8 0 b) (number 4 8 b) (number 4 12 b) (number 2 17 b) (priority_by (number 1 16 b)) (confirm_at 19 b) p h

  pub broadcast-past : e ≡ broadcast_of b → NoBroadcast e → broadcast_of b ≡ Malformed
  unfolding broadcast_of
  broadcast-past p h = broadcast-by (number 8 0 b) (number 4 8 b) (number 4 12 b) (priority_by (number 1 16 b)) (schedule_at 17 b) p h

  pub report-past : e ≡ report_of b → NoReport e → report_of b ≡ Malformed
  unfolding report_of
  report-past p h = report-by (lender_by (number 1 0 b)) (number 4 1 b) (number 4 5 b) (result_by (number 1 9 b) (number 2 10 b)) (number 8 12 b) (number 4 20 b) p h

  pub poll-past : e ≡ poll_of b → NoPoll e → poll_of b ≡ Malformed
  unfolding poll_of
  poll-past p h = poll-by (number 8 0 b) (opt64_by (number 1 8 b) (number 8 9 b)) (opt16_by (number 1 17 b) (number 2 18 b)) p h

  pub ack-past : e ≡ ack_of b → NoAck e → ack_of b ≡ Malformed
  unfolding ack_of
  ack-past p h = ack-by (key_at 0 b) p h

  pub route-past : e ≡ route_of b → NoRoute e → route_of b ≡ Malformed
  unfolding route_of
  route-past p h = route-by (ltb 16 (number 1 10 b)) (entries_right b (number 1 10 b) 0 16) (number 8 0 b) (number 2 8 b) (number 1 10 b) p h

  pub drop_past : e ≡ drop_of b → NoDrop e → drop_of b ≡ Malformed
  unfolding drop_of
  drop_past p h = drop-by (opt64_by (number 1 0 b) (number 8 1 b)) (number 2 9 b) p h

  pub awaiting-past : e ≡ has_awaiting_of b → NoAwaiting e → has_awaiting_of b ≡ Malformed
  unfolding has_awaiting_of
  awaiting-past p h = awaiting-by (address_at 0 b) p h
