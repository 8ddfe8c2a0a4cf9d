-- What a kind says of its event: a kind that the run does not see to itself is a call of the tables, whatever its body. Assumes nothing.
use Rattle.std.specs.Prelude.{Option, None, Some}
use Prim.Native.Nat.{ℕ}
use native.Mathlib.Omega.{arith}
use mathlib.Core.Path.{◌≡◌, refl, sym, ap, ◌∙◌}
use mathlib.Core.Bool.{Bool, true, false, ◌||◌}
use mathlib.Core.List.{List}
use borrow.Author.Tests.{ne_eqb}
use lib.Dec.{T, eqb, ltb, eqb→eq, eqb_refl}
use Rattle.records.specs.Pick.{pick, bit}
use Rattle.records.specs.declared.Address.TheVariants.{Absent, Short, Extended}
use Rattle.fields.specs.Bytes.{number}
use Rattle.fields.specs.Parts.{priority_by, address_at, key_at, confirm_at, schedule_at, opt16_by, opt64_by, result_by, lender_by}
use Rattle.events.specs.Events.{event_of}
use Rattle.events.specs.Arrivals.{unicast_at, unicast_event, unicast_of, copy_event, copy_of, unrouted_with, unrouted_of, broadcast_with, broadcast_of}
use Rattle.events.specs.Signals.{settings_of, dequeue_of, report_with, report_of, poll_with, poll_of, ack_event, ack_of, retry_of, fail_of, delivered_of, drop_with, drop_of, cancel_of, tick_of, pair_of, has_unrouted_of, awaiting_event, has_awaiting_of}
use Rattle.events.specs.Routes.{entries_right, route_of}
use Rattle.steps.specs.Applied.{Plain}
use Rattle.exchange.specs.Types.{Event, OnSettings, OnUnicast, OnCopy, OnUnrouted, OnBroadcast, OnDequeue, OnReport, OnPoll, OnAck, OnRetry, OnFail, OnRoute, OnDelivered, OnDrop, OnCancel, OnTick, OnAbandon, OnNextWake, OnPair, OnLists, OnHasUnrouted, OnHasAwaiting, Malformed}
use Rattle.exchange.specs.World.{is_own}
use Rattle.records.specs.declared.Priority.{Priority}
use Rattle.records.specs.declared.Address.{Address}
use Rattle.records.specs.declared.AckKey.{AckKey}
use Rattle.records.specs.declared.Confirm.{Confirm}
use Rattle.records.specs.Types.{TxResult}
use Rattle.records.specs.declared.Schedule.{Schedule}
use Rattle.model.specs.declared.Lender.{Lender}
use Rattle.model.specs.declared.NewUnicast.{NewUnicast}

-- one that is handed to the tables as it is
abbrev pub is_call : Event → Bool
is_call (OnSettings s) = false
is_call (OnUnicast now u) = true
is_call (OnCopy id now u) = true
is_call (OnUnrouted now u) = true
is_call (OnBroadcast now u) = true
is_call (OnDequeue now) = true
is_call (OnReport from id frame x now delay) = true
is_call (OnPoll now eui nwk) = true
is_call (OnAck k) = true
is_call (OnRetry d) = true
is_call (OnFail d) = true
is_call (OnRoute now d n) = true
is_call (OnDelivered k) = true
is_call (OnDrop eui nwk) = true
is_call (OnCancel id) = true
is_call (OnTick now) = true
is_call OnAbandon = false
is_call OnNextWake = false
is_call (OnPair x y) = false
is_call OnLists = false
is_call (OnHasUnrouted d) = true
is_call (OnHasAwaiting a) = true
is_call Malformed = true

-- ---- by what the body says

unicast-call : (t : ℕ) (u : Option NewUnicast) → is_call (unicast_event t u) ≡ true
unicast-call t (Some u) = refl
unicast-call t None = refl

copy-call : (id t : ℕ) (u : Option NewUnicast) → is_call (copy_event id t u) ≡ true
copy-call id t (Some u) = refl
copy-call id t None = refl

unrouted-call : (t f w d : ℕ) (p : Option Priority) (c : Option Confirm) → is_call (unrouted_with t f w d p c) ≡ true
unrouted-call t f w d (Some p) (Some c) = refl
unrouted-call t f w d (Some p) None = refl
unrouted-call t f w d None c = refl

broadcast-call : (t f w : ℕ) (p : Option Priority) (s : Option Schedule) → is_call (broadcast_with t f w p s) ≡ true
broadcast-call t f w (Some p) (Some s) = refl
broadcast-call t f w (Some p) None = refl
broadcast-call t f w None s = refl

report-call : (l : Option Lender) (id f : ℕ) (x : Option TxResult) (t d : ℕ) → is_call (report_with l id f x t d) ≡ true
report-call (Some l) id f (Some x) t d = refl
report-call (Some l) id f None t d = refl
report-call None id f x t d = refl

poll-call : (t : ℕ) (x : Option (Option ℕ)) (y : Option (Option ℕ)) → is_call (poll_with t x y) ≡ true
poll-call t (Some e) (Some n) = refl
poll-call t (Some e) None = refl
poll-call t None y = refl

ack-call : (k : Option AckKey) → is_call (ack_event k) ≡ true
ack-call (Some k) = refl
ack-call None = refl

route-call : (a b : Bool) (t d n : ℕ) → is_call (pick a Malformed (pick b (OnRoute t d n) Malformed)) ≡ true
route-call true b t d n = refl
route-call false true t d n = refl
route-call false false t d n = refl

drop-call : (x : Option (Option ℕ)) (n : ℕ) → is_call (drop_with x n) ≡ true
drop-call (Some e) n = refl
drop-call None n = refl

awaiting-call : (a : Option Address) → is_call (awaiting_event a) ≡ true
awaiting-call (Some Absent) = refl
awaiting-call (Some (Short x)) = refl
awaiting-call (Some (Extended x)) = refl
awaiting-call None = refl

-- ---- by the kind

either : (t : Bool) (x y : Event) → is_call x ≡ true → is_call y ≡ true → is_call (pick t x y) ≡ true
either true x y p q = p
either false x y p q = q

skip : (t : Bool) (x y : Event) → t ≡ false → is_call y ≡ true → is_call (pick t x y) ≡ true
skip t x y e q = ap (λ (b : Bool). is_call (pick b x y)) e ∙ q

no : false ≡ true → ⊥
no h = let z : ◌≡◌ {A = ℕ} 0 1 = ap bit h in absurd (omega arith)

or_left : (a b : Bool) → (a || b) ≡ false → a ≡ false
or_left true b h = absurd (no (sym h))
or_left false b h = refl

or_right : (a b : Bool) → (a || b) ≡ false → b ≡ false
or_right true b h = absurd (no (sym h))
or_right false b h = h

differs : (k n : ℕ) → eqb k n ≡ false → k ≡ n → ⊥
differs k n h e = no (sym h ∙ ap (λ (m : ℕ). eqb m n) e ∙ same (eqb n n) (eqb_refl n))
  where
    same : (b : Bool) → T b → b ≡ true
    same true t = refl
    same false t = absurd t

module _ (k : ℕ) (h : is_own k ≡ false) where
  not-1 : eqb k 1 ≡ false
  not-1 = or_left (eqb k 1) (eqb k 17 || (eqb k 18 || (eqb k 19 || eqb k 20))) h

  after-1 : (eqb k 17 || (eqb k 18 || (eqb k 19 || eqb k 20))) ≡ false
  after-1 = or_right (eqb k 1) (eqb k 17 || (eqb k 18 || (eqb k 19 || eqb k 20))) h

  not-17 : eqb k 17 ≡ false
  not-17 = or_left (eqb k 17) (eqb k 18 || (eqb k 19 || eqb k 20)) after-1

  after-17 : (eqb k 18 || (eqb k 19 || eqb k 20)) ≡ false
  after-17 = or_right (eqb k 17) (eqb k 18 || (eqb k 19 || eqb k 20)) after-1

  not-18 : eqb k 18 ≡ false
  not-18 = or_left (eqb k 18) (eqb k 19 || eqb k 20) after-17

  after-18 : (eqb k 19 || eqb k 20) ≡ false
  after-18 = or_right (eqb k 18) (eqb k 19 || eqb k 20) after-17

  not-19 : eqb k 19 ≡ false
  not-19 = or_left (eqb k 19) (eqb k 20) after-18

  not-20 : eqb k 20 ≡ false
  not-20 = or_right (eqb k 19) (eqb k 20) after-18

  pub own-plain : Plain k
  own-plain = ((((differs k 1 not-1, differs k 17 not-17), differs k 18 not-18), differs k 19 not-19), differs k 20 not-20)

  pub event-call : (b : List ℕ) → is_call (event_of k b) ≡ true
  unfolding event_of unicast_of copy_of unrouted_of broadcast_of dequeue_of report_of poll_of ack_of retry_of fail_of route_of delivered_of drop_of cancel_of tick_of has_unrouted_of has_awaiting_of
  event-call b =
      skip (eqb k 1) (settings_of b) _ not-1
      (either (eqb k 2) (unicast_of b) _ (unicast-call (number 8 0 b) (unicast_at 0 b))
      (either (eqb k 3) (copy_of b) _ (copy-call (number 4 0 b) (number 8 4 b) (unicast_at 4 b))
      (either (eqb k 4) (unrouted_of b) _ (unrouted-call (number 8 0 b) (number 4 8 b) (number 4 12 b) (number 2 17 b) (priority_by (number 1 16 b)) (confirm_at 19 b))
      (either (eqb k 5) (broadcast_of b) _ (broadcast-call (number 8 0 b) (number 4 8 b) (number 4 12 b) (priority_by (number 1 16 b)) (schedule_at 17 b))
      (either (eqb k 6) (dequeue_of b) _ refl
      (either (eqb k 7) (report_of b) _ (report-call (lender_by (number 1 0 b)) (number 4 1 b) (number 4 5 b) (result_by (number 1 9 b) (number 2 10 b)) (number 8 12 b) (number 4 20 b))
      (either (eqb k 8) (poll_of b) _ (poll-call (number 8 0 b) (opt64_by (number 1 8 b) (number 8 9 b)) (opt16_by (number 1 17 b) (number 2 18 b)))
      (either (eqb k 9) (ack_of b) _ (ack-call (key_at 0 b))
      (either (eqb k 10) (retry_of b) _ refl
      (either (eqb k 11) (fail_of b) _ refl
      (either (eqb k 12) (route_of b) _ (route-call (ltb 16 (number 1 10 b)) (entries_right b (number 1 10 b) 0 16) (number 8 0 b) (number 2 8 b) (number 1 10 b))
      (either (eqb k 13) (delivered_of b) _ refl
      (either (eqb k 14) (drop_of b) _ (drop-call (opt64_by (number 1 0 b) (number 8 1 b)) (number 2 9 b))
      (either (eqb k 15) (cancel_of b) _ refl
      (either (eqb k 16) (tick_of b) _ refl
      (skip (eqb k 17) OnAbandon _ not-17
      (skip (eqb k 18) OnNextWake _ not-18
      (skip (eqb k 19) (pair_of b) _ not-19
      (skip (eqb k 20) OnLists _ not-20
      (either (eqb k 21) (has_unrouted_of b) _ refl
      (either (eqb k 22) (has_awaiting_of b) _ (awaiting-call (address_at 0 b)) refl)))))))))))))))))))))

-- the last kind that the run sees to itself
pub own-last : {k : ℕ} → is_own k ≡ true → (k ≡ 1 → ⊥) → (k ≡ 17 → ⊥) → (k ≡ 18 → ⊥) → (k ≡ 19 → ⊥) → k ≡ 20
own-last {k} h a b c d = eqb→eq k 20 (told (eqb k 20) (sym (rw (ne_eqb k 1 a, ne_eqb k 17 b, ne_eqb k 18 c, ne_eqb k 19 d) refl) ∙ h))
  where
    told : (x : Bool) → x ≡ true → T x
    told true e = tt
    told false e = absurd (no e)
