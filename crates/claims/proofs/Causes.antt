-- SUCCESS ONLY FOR CAUSE, proved: every call keeps each send tied to the history, and settles a success only for cause. Assumes nothing.
use Rattle.std.specs.Prelude.{Option, None, Some, Ok, Err}
use Prim.Native.Nat.{ℕ, suc, ◌-◌, ◌≤◌}
use native.Mathlib.Omega.{arith}
use mathlib.Core.Path.{◌≡◌, refl, sym, ap, subst}
use mathlib.Core.Bool.{Bool, true, false, not, ◌||◌}
use mathlib.Core.List.{List, [], ◌∷◌, ◌++◌}
use mathlib.Core.Logic.{inl, inr, ⊎_elim}
use lib.ListN.{length, take}
use lib.Dec.{ltb, leb, eqb}
use borrow.Author.Tests.{eqb-true}
use Rattle.records.specs.Pick.{pick}
use Rattle.records.specs.Limits.{no_id, unicast_room, broadcast_room}
use Rattle.records.specs.Records.{unicast_id, unrouted_id, broadcast_id, unicast_entry, unrouted_entry, broadcast_entry}
use Rattle.records.specs.Priorities.{rank_of}
use Rattle.records.proofs.Cases.{either, never}
use Rattle.rows.specs.Lists.{All, insert_by, lookup}
use Rattle.rows.specs.Moves.{told, at_first_told, first_of, any_of, count, has_id, each_told}
use Rattle.rows.specs.declared.Turn.{Turn}
use Rattle.rows.proofs.Promises.{first-has, told-found, told-missed}
use Rattle.casting.specs.Rules as bro
use Rattle.sending.specs.Rules as uni
use Rattle.sending.specs.Lists as unis
use Rattle.unrouted.specs.Rules as unr
use Rattle.model.specs.Model.{Model, Effect, fresh_of, with_unicasts, with_unrouted, with_broadcasts, denied, answers}
use Rattle.model.specs.Calls.{late, unless, only, reached, matched, lapsed, entering, failing, routed, routing, route_of, admitting, drawn, new_unicast, enqueue_of, new_unrouted, enqueue_unrouted_of, attempt_late, new_broadcast, enqueue_broadcast_of, turn_unicast, turn_broadcast, lend_unicast, lend_broadcast, unicast_first, lend_best, dequeue_of, report_in, transmitted_of, poll_of, ack_of, drop_of, delivered_of, retry_by, retry_of, fail_of, cast_bar, cancel_of, tick_of}
use Rattle.model.specs.Steps.{Call, Outcome, acts, step_of, after}
use Rattle.model.specs.Steps.Call.{EnqueueUnicast, EnqueueCopy, EnqueueUnrouted, EnqueueBroadcast, Dequeue, Transmitted, Poll, AckReceived, RetryDiscovery, FailUnrouted, RouteUnicasts, Delivered, DropIndirect, Cancel, Tick, Abandon, NextWake, Destinations, AwaitingQuorum, PollAddresses, HasUnrouted, HasAwaiting}
use Rattle.model.specs.Steps.Reply.{Says}
use Rattle.model.specs.Sound.{SoundModel}
use Rattle.model.proofs.Kepts.{all_insert, all-only}
use Rattle.model.proofs.Sounds.{fresh-sound, step-sound}
use Rattle.claims.specs.CausesTypes.{Priority, Address, Absent, Short, Extended, Stage, Queued, Transmitting, Retrying, AwaitingPoll, AwaitingApsAck, AckKey, QuorumKey, Unicast, Unrouted, Destination, Broadcast, Settings, TxResult, Verdict, Success, Failure, Code, Action, HandedOff, Settled, Refusal, TimeTooLate, IdsExhausted, NoCopies, NoPlace, ResultsMismatch, Lapsed, Bound, Retry, NotHeld, Declined, Granted, NewUnicast, NewUnrouted, NewBroadcast, Resolved, Lender, FromUnicasts, FromBroadcasts, Answer, Denied, Accepted, Issued}
use Rattle.claims.specs.Causes.Want.{AnAck, AReport, AReportAndQuorum}
use Rattle.claims.specs.Causes.{Fact, Ever, Want, confirm_want, schedule_want, want_of, Enqueued, Acked, Reported, Heard, SuccessForCause, HandedOffForCause, OneWant, PollTellsNothing, FailedIsNoSuccess}
use Rattle.claims.proofs.CausesMoves.{all_append, all-at, first-there, is-oldest, ForCause, each-kept, each-told, first-kept, first-told}
use Rattle.claims.proofs.CausesTurns.{AckCame, StageFor, TiedU, TiedR, TiedB, GoodU, GoodB, IfSent, stage-admitted, lend-good, poll-good, ack-good, report-good, tick-good, cancel-good, drop-good, copy-good, lapsed-good, bound-good, withdrawn-good, dequeue-good, recall-good, delivered-good, broadcast-report-good, broadcast-tick-good}

module _ (E : Fact → Type 0) where
  pub record Tied (m : Model) : Type 0 where
    pub unicasts : All (TiedU E) m.unicasts
    pub unrouted : All (TiedR E) m.unrouted
    pub broadcasts : All (TiedB E) m.broadcasts

  -- an effect leaves tied tables, and tells for cause
  pub record Fair (e : Effect) : Type 0 where
    pub ties : Tied e.model
    pub said : All (ForCause E) e.actions

  module _ {m : Model} (t : Tied m) where
    -- nothing is told, and the tables stay or are these
    quiet : (m' : Model) (a : Answer) → Tied m' → Fair (answers m' a)
    quiet m' a w = record { ties = w; said = tt }

    refused : (x : Refusal) → Fair (denied m x)
    refused x = record { ties = t; said = tt }

    on-unicasts : {us : List Unicast} → All (TiedU E) us → Tied (with_unicasts m us)
    on-unicasts a = record { unicasts = a; unrouted = t.unrouted; broadcasts = t.broadcasts }

    on-unrouted : {rs : List Unrouted} {hs : List Destination} → All (TiedR E) rs → Tied (with_unrouted m rs hs)
    on-unrouted a = record { unicasts = t.unicasts; unrouted = a; broadcasts = t.broadcasts }

    on-broadcasts : {bs : List Broadcast} → All (TiedB E) bs → Tied (with_broadcasts m bs)
    on-broadcasts a = record { unicasts = t.unicasts; unrouted = t.unrouted; broadcasts = a }

    -- ---- turns on one table

    turned-unicast : (q : Unicast → Bool) (f : Unicast → Turn Unicast) → ((u : Unicast) → TiedU E u → first_of q m.unicasts ≡ Some u → GoodU E u (f u)) → Fair (turn_unicast m q f)
    turned-unicast q f g =
        record {
          ties = on-unicasts (first-kept E unicast_entry (TiedU E) f q m.unicasts g t.unicasts);
          said = first-told E unicast_entry (TiedU E) f q m.unicasts g t.unicasts;
        }

    turned-broadcast : (q : Broadcast → Bool) (f : Broadcast → Turn Broadcast) → ((b : Broadcast) → TiedB E b → first_of q m.broadcasts ≡ Some b → GoodB E b (f b))
        → Fair (turn_broadcast m q f)
    turned-broadcast q f g =
        record {
          ties = on-broadcasts (first-kept E broadcast_entry (TiedB E) f q m.broadcasts g t.broadcasts);
          said = first-told E broadcast_entry (TiedB E) f q m.broadcasts g t.broadcasts;
        }

    unless-fair : (o : Option Refusal) (e : Effect) → Fair e → Fair (unless m o e)
    unless-fair None e h = h
    unless-fair (Some x) e h = refused x

    -- ---- enqueues: the send is issued, or nothing changes

    admit : (late empty out full : Bool) (m' : Model)
        → ((pick late (denied m TimeTooLate) (pick empty (denied m NoCopies) (pick out (denied m IdsExhausted) (pick full (denied m NoPlace) (answers m' (Issued m.next)))))).answer
        ≡ Issued m.next
        → Tied m')
        → Fair (pick late (denied m TimeTooLate) (pick empty (denied m NoCopies) (pick out (denied m IdsExhausted) (pick full (denied m NoPlace) (answers m' (Issued m.next))))))
    admit true empty out full m' h = refused TimeTooLate
    admit false true out full m' h = refused NoCopies
    admit false false true full m' h = refused IdsExhausted
    admit false false false true m' h = refused NoPlace
    admit false false false false m' h = quiet m' (Issued m.next) (h refl)

    enqueue-fair : (s : Settings) (u : NewUnicast) (copy : Option ℕ) (now : ℕ)
        → ((enqueue_of m s u copy now).answer ≡ Issued m.next → E (Enqueued m.next (confirm_want u.confirm))) → Fair (enqueue_of m s u copy now)
    enqueue-fair s u copy now h =
        let v : Unicast = new_unicast m s u copy now in
        admit (late now) false (eqb m.next no_id) (leb unicast_room (length m.unicasts)) (with_unicasts (drawn m) (insert_by unicast_id v m.unicasts))
        (λ e.
        record {
          unicasts = all_insert (TiedU E) unicast_id v (record { enqueued = h e; stage = stage-admitted E m.next (confirm_want u.confirm) u.poll_address })
              m.unicasts t.unicasts;
          unrouted = t.unrouted;
          broadcasts = t.broadcasts;
        })

    unrouted-fair : (s : Settings) (u : NewUnrouted) (now : ℕ)
        → ((enqueue_unrouted_of m s u now).answer ≡ Issued m.next → E (Enqueued m.next (confirm_want u.confirm))) → Fair (enqueue_unrouted_of m s u now)
    unrouted-fair s u now h =
        let v : Unrouted = new_unrouted m s u now in
        admit (late now) false (eqb m.next no_id) (unr.no_room v m.unrouted m.held)
        (with_unrouted (drawn m) (insert_by unrouted_id v m.unrouted) (unr.holding s.discovery_attempts u.destination m.held))
        (λ e.
        record {
          unicasts = t.unicasts;
          unrouted = all_insert (TiedR E) unrouted_id v (record { enqueued = h e }) m.unrouted t.unrouted;
          broadcasts = t.broadcasts;
        })

    broadcast-fair : (s : Settings) (b : NewBroadcast) (now : ℕ)
        → ((enqueue_broadcast_of m s b now).answer ≡ Issued m.next → E (Enqueued m.next (schedule_want b.schedule))) → Fair (enqueue_broadcast_of m s b now)
    broadcast-fair s b now h =
        let v : Broadcast = new_broadcast m s b now in
        admit (late now || attempt_late b.schedule) (bro.no_copies b.schedule) (eqb m.next no_id) (leb broadcast_room (length m.broadcasts))
        (with_broadcasts (drawn m) (insert_by broadcast_id v m.broadcasts))
        (λ e.
        record {
          unicasts = t.unicasts;
          unrouted = t.unrouted;
          broadcasts = all_insert (TiedB E) broadcast_id v (record { enqueued = h e; handed = λ x. never x; heard = λ x. never x }) m.broadcasts t.broadcasts;
        })

    -- ---- the radio

    lend-unicast : (i : ℕ) → Fair (lend_unicast m i)
    lend-unicast i =
        quiet _ _
        (on-unicasts (first-kept E unicast_entry (TiedU E) uni.lend_turn (has_id unicast_entry i) m.unicasts (λ u w f. lend-good E u w) t.unicasts))

    lend-broadcast : (i : ℕ) → Fair (lend_broadcast m i)
    lend-broadcast i =
        quiet _ _
        (on-broadcasts (first-kept E broadcast_entry (TiedB E) bro.dequeue_turn (has_id broadcast_entry i) m.broadcasts (λ b w f. dequeue-good E b w) t.broadcasts))

    dequeue-fair : (now : ℕ) → Fair (dequeue_of m now)
    dequeue-fair now = either Fair (late now) (refused TimeTooLate) (go (unis.best_of now m.unicasts) (bro.best_of now m.broadcasts))
      where
        go : (a : Option (ℕ × Priority)) (b : Option (ℕ × ℕ)) → Fair (lend_best m a b)
        go None None = quiet m _ t
        go None (Some (j, q)) = lend-broadcast j
        go (Some (i, p)) None = lend-unicast i
        go (Some (i, p)) (Some (j, q)) = either Fair (unicast_first i (rank_of p) j q) (lend-unicast i) (lend-broadcast j)

    -- a report is accepted, or nothing changes
    accept : (late : Bool) (o : Option Refusal) (e : Effect) → e.answer ≡ Accepted → ((pick late (denied m TimeTooLate) (unless m o e)).answer ≡ Accepted → Fair e)
        → Fair (pick late (denied m TimeTooLate) (unless m o e))
    accept true o e a h = refused TimeTooLate
    accept false None e a h = h a
    accept false (Some x) e a h = refused x

    report-fair : (from : Lender) (id frame : ℕ) (x : TxResult) (now delay : ℕ) → ((transmitted_of m from id frame x now delay).answer ≡ Accepted → IfSent E x id)
        → Fair (transmitted_of m from id frame x now delay)
    report-fair FromUnicasts id frame x now delay h =
        accept (late now) (unis.report_bar frame (first_of (has_id unicast_entry id) m.unicasts)) (turn_unicast m (has_id unicast_entry id) (uni.report_turn x now delay)) refl
        (λ a.
        turned-unicast (has_id unicast_entry id) (uni.report_turn x now delay)
        (λ u w f.
        report-good E x now delay u w (subst (IfSent E x) (sym (eqb-true u.id id (first-has unicast_id (has_id unicast_entry id) m.unicasts u f))) (h a))))
    report-fair FromBroadcasts id frame x now delay h =
        accept (late now) (bro.report_bar frame (lookup broadcast_id id m.broadcasts)) (turn_broadcast m (has_id broadcast_entry id) (bro.report_turn x now delay)) refl
        (λ a.
        turned-broadcast (has_id broadcast_entry id) (bro.report_turn x now delay)
        (λ b w f.
        broadcast-report-good E x now delay b w
        (subst (IfSent E x) (sym (eqb-true b.id id (first-has broadcast_id (has_id broadcast_entry id) m.broadcasts b f))) (h a))))

    -- ---- devices

    poll-fair : (eui : Option ℕ) (nwk : Option ℕ) (now : ℕ) → Fair (poll_of m eui nwk now)
    poll-fair eui nwk now =
        either Fair (late now) (refused TimeTooLate)
        (quiet _ _ (on-unicasts (first-kept E unicast_entry (TiedU E) uni.poll_turn (uni.awaits eui nwk now) m.unicasts (λ u w f. poll-good E u w) t.unicasts)))

    ack-fair : (k : AckKey) → ((u : Unicast) → first_of (uni.keyed k) m.unicasts ≡ Some u → E (Acked u.id k)) → Fair (ack_of m k)
    ack-fair k h =
        turned-unicast (uni.keyed k) uni.ack_turn (λ u w f. ack-good E k u w (first-has unicast_id (uni.keyed k) m.unicasts u f) (h u f))

    delivered-fair : (k : QuorumKey) → ((b : Broadcast) → first_of (bro.keyed k) m.broadcasts ≡ Some b → E (Heard b.id k)) → Fair (delivered_of m k)
    delivered-fair k h =
        turned-broadcast (bro.keyed k) bro.delivered_turn (λ b w f. delivered-good E k b w (first-has broadcast_id (bro.keyed k) m.broadcasts b f) (h b f))

    drop-fair : (eui : Option ℕ) (nwk : ℕ) → Fair (drop_of m eui nwk)
    drop-fair eui nwk =
        record {
          ties = on-unicasts (each-kept E unicast_entry (TiedU E) (uni.drop_turn eui nwk) (drop-good E eui nwk) m.unicasts t.unicasts);
          said = each-told E unicast_entry (TiedU E) (uni.drop_turn eui nwk) (drop-good E eui nwk) m.unicasts t.unicasts;
        }

    -- ---- routes

    retry-fair : (d : ℕ) → Fair (retry_of m d)
    retry-fair d = go (unr.retry_of d m.unrouted m.held)
      where
        go : (r : Retry) → Fair (retry_by m d r)
        go NotHeld = refused _
        go Declined = quiet m _ t
        go Granted = quiet _ _ (on-unrouted t.unrouted)

    fail-fair : (d : ℕ) → Fair (fail_of m d)
    fail-fair d =
        record {
          ties = on-unrouted (each-kept E unrouted_entry (TiedR E) (unr.sweep_turn (Bound d)) (bound-good E d) m.unrouted t.unrouted);
          said = each-told E unrouted_entry (TiedR E) (unr.sweep_turn (Bound d)) (bound-good E d) m.unrouted t.unrouted;
        }

    lapsed-tied : (now : ℕ) → All (TiedR E) (lapsed m now)
    lapsed-tied now = each-kept E unrouted_entry (TiedR E) (unr.sweep_turn (Lapsed now)) (lapsed-good E now) m.unrouted t.unrouted

    lapsed-told : (now : ℕ) → All (ForCause E) (each_told unrouted_entry (unr.sweep_turn (Lapsed now)) m.unrouted)
    lapsed-told now = each-told E unrouted_entry (TiedR E) (unr.sweep_turn (Lapsed now)) (lapsed-good E now) m.unrouted t.unrouted

    entering-tied : (s : Settings) (now : ℕ) (ts : List Unrouted) (rs : List Resolved) (us : List Unicast) → All (TiedR E) ts → All (TiedU E) us → All (TiedU E) (entering s now ts rs us)
    entering-tied s now [] rs us a b = b
    entering-tied s now (u ∷ ts) [] us a b = b
    entering-tied s now (u ∷ ts) (Ok (hop, p) ∷ rs) us a b =
        entering-tied s now ts rs (insert_by unicast_id (routed s now u hop p) us) a.1
        (all_insert (TiedU E) unicast_id (routed s now u hop p) (record { enqueued = a.0.enqueued; stage = stage-admitted E u.id (confirm_want u.confirm) p }) us b)
    entering-tied s now (u ∷ ts) (Err c ∷ rs) us a b = entering-tied s now ts rs us a.1 b

    failing-told : (ts : List Unrouted) (rs : List Resolved) → All (ForCause E) (failing ts rs)
    failing-told [] rs = tt
    failing-told (u ∷ ts) [] = tt
    failing-told (u ∷ ts) (Ok (hop, p) ∷ rs) = failing-told ts rs
    failing-told (u ∷ ts) (Err c ∷ rs) = (tt, failing-told ts rs)

    routing-fair : (s : Settings) (d now : ℕ) (rs : List Resolved) → Fair (routing m s d now rs)
    routing-fair s d now rs =
        let ts : List Unrouted = only (unr.goes_to d) (lapsed m now) in
        record {
          ties = record {
            unicasts = entering-tied s now ts rs m.unicasts (all-only (TiedR E) (TiedR E) (unr.goes_to d) (λ u e w. w) (lapsed m now) (lapsed-tied now)) t.unicasts;
            unrouted = all-only (TiedR E) (TiedR E) (λ (u : Unrouted). not (unr.goes_to d u)) (λ u e w. w) (lapsed m now) (lapsed-tied now);
            broadcasts = t.broadcasts;
          };
          said = all_append (ForCause E) (each_told unrouted_entry (unr.sweep_turn (Lapsed now)) m.unrouted) (failing ts rs) (lapsed-told now) (failing-told ts rs);
        }

    route-fair : (s : Settings) (d now n : ℕ) (rs : List Resolved) → Fair (route_of m s d now n rs)
    route-fair s d now n rs =
        either Fair (late now) (refused TimeTooLate)
        (either Fair (matched m d now n rs)
        (either Fair (ltb (unicast_room - length m.unicasts) (count reached (take n rs))) (refused NoPlace) (routing-fair s d now (take n rs)))
        (refused ResultsMismatch))

    -- ---- cancel and tick

    cancel-fair : (id : ℕ) → Fair (cancel_of m id)
    cancel-fair id =
        either Fair (any_of (has_id unicast_entry id) m.unicasts)
        (unless-fair (unis.cancel_bar (first_of (has_id unicast_entry id) m.unicasts)) _
        (turned-unicast (has_id unicast_entry id) uni.cancel_turn (λ u w f. cancel-good E u w)))
        (either Fair (any_of (has_id unrouted_entry id) m.unrouted)
        (record {
          ties = on-unrouted
              (first-kept E unrouted_entry (TiedR E) unr.cancel_turn (has_id unrouted_entry id) m.unrouted (λ u w f. withdrawn-good E u w) t.unrouted);
          said = first-told E unrouted_entry (TiedR E) unr.cancel_turn (has_id unrouted_entry id) m.unrouted (λ u w f. withdrawn-good E u w) t.unrouted;
        })
        (unless-fair (cast_bar id m.unicasts (lookup broadcast_id id m.broadcasts)) _
        (record {
          ties = record {
            unicasts = each-kept E unicast_entry (TiedU E) (uni.copy_turn id) (copy-good E id) m.unicasts t.unicasts;
            unrouted = t.unrouted;
            broadcasts = first-kept E broadcast_entry (TiedB E) bro.cancel_turn (has_id broadcast_entry id) m.broadcasts (λ b w f. recall-good E b w) t.broadcasts;
          };
          said = all_append (ForCause E) (at_first_told broadcast_entry (has_id broadcast_entry id) bro.cancel_turn m.broadcasts) (each_told unicast_entry (uni.copy_turn id) m.unicasts)
              (first-told E broadcast_entry (TiedB E) bro.cancel_turn (has_id broadcast_entry id) m.broadcasts (λ b w f. recall-good E b w) t.broadcasts)
              (each-told E unicast_entry (TiedU E) (uni.copy_turn id) (copy-good E id) m.unicasts t.unicasts);
        })))

    tick-fair : (now : ℕ) → Fair (tick_of m now)
    tick-fair now =
        either Fair (late now) (refused TimeTooLate)
        (record {
          ties = record {
            unicasts = each-kept E unicast_entry (TiedU E) (uni.tick_turn now) (tick-good E now) m.unicasts t.unicasts;
            unrouted = lapsed-tied now;
            broadcasts = each-kept E broadcast_entry (TiedB E) (bro.tick_turn now) (broadcast-tick-good E now) m.broadcasts t.broadcasts;
          };
          said = all_append (ForCause E) (each_told unicast_entry (uni.tick_turn now) m.unicasts) _
              (each-told E unicast_entry (TiedU E) (uni.tick_turn now) (tick-good E now) m.unicasts t.unicasts)
              (all_append (ForCause E) (each_told unrouted_entry (unr.sweep_turn (Lapsed now)) m.unrouted) _ (lapsed-told now)
              (each-told E broadcast_entry (TiedB E) (bro.tick_turn now) (broadcast-tick-good E now) m.broadcasts t.broadcasts));
        })

  -- ---- any call, of which the history holds what is said of it

  pub record Stepped (o : Outcome) : Type 0 where
    pub ties : Tied o.model
    pub said : All (ForCause E) o.actions

  fair : (e : Effect) → Fair e → Stepped (acts e)
  fair e f = record { ties = f.ties; said = f.said }

  pub step-fair : (m : Model) → SoundModel m → Tied m → (c : Call) → ((P : Fact) → P m c → E P) → Stepped (step_of m c)
  step-fair m s t (EnqueueUnicast set u now) h =
      fair _ (enqueue-fair t set u None now (λ e. h (Enqueued m.next (confirm_want u.confirm)) (record { wants = refl; issued = ap Says e })))
  step-fair m s t (EnqueueCopy set broadcast u now) h =
      fair _ (enqueue-fair t set u (Some broadcast) now (λ e. h (Enqueued m.next (confirm_want u.confirm)) (record { wants = refl; issued = ap Says e })))
  step-fair m s t (EnqueueUnrouted set u now) h =
      fair _ (unrouted-fair t set u now (λ e. h (Enqueued m.next (confirm_want u.confirm)) (record { wants = refl; issued = ap Says e })))
  step-fair m s t (EnqueueBroadcast set b now) h =
      fair _ (broadcast-fair t set b now (λ e. h (Enqueued m.next (schedule_want b.schedule)) (record { wants = refl; issued = ap Says e })))
  step-fair m s t (Dequeue now) h = fair _ (dequeue-fair t now)
  step-fair m s t (Transmitted from id frame x now delay) h = fair _ (report-fair t from id frame x now delay (go x h))
    where
      go : (x : TxResult) → ((P : Fact) → P m (Transmitted from id frame x now delay) → E P) → (transmitted_of m from id frame x now delay).answer ≡ Accepted → IfSent E x id
      go (Ok _) h a = h (Reported id) (record { from = from; frame = frame; now = now; delay = delay; came = refl; accepted = ap Says a })
      go (Err code) h a = tt
  step-fair m s t (Poll eui nwk now) h = fair _ (poll-fair t eui nwk now)
  step-fair m s t (AckReceived k) h =
      fair _
      (ack-fair t k
      (λ u f. h (Acked u.id k) (record { came = refl; oldest = is-oldest unicast_entry (uni.keyed k) m.unicasts u s.unicasts.rising f })))
  step-fair m s t (RetryDiscovery d) h = fair _ (retry-fair t d)
  step-fair m s t (FailUnrouted d) h = fair _ (fail-fair t d)
  step-fair m s t (RouteUnicasts set d now n rs) h = fair _ (route-fair t set d now n rs)
  step-fair m s t (Delivered k) h =
      fair _
      (delivered-fair t k
      (λ b f. h (Heard b.id k) (record { came = refl; oldest = is-oldest broadcast_entry (bro.keyed k) m.broadcasts b s.broadcasts.rising f })))
  step-fair m s t (DropIndirect eui nwk) h = fair _ (drop-fair t eui nwk)
  step-fair m s t (Cancel id) h = fair _ (cancel-fair t id)
  step-fair m s t (Tick now) h = fair _ (tick-fair t now)
  step-fair m s t Abandon h = record { ties = record { unicasts = tt; unrouted = tt; broadcasts = tt }; said = tt }
  step-fair m s t NextWake h = record { ties = t; said = tt }
  step-fair m s t Destinations h = record { ties = t; said = tt }
  step-fair m s t AwaitingQuorum h = record { ties = t; said = tt }
  step-fair m s t (PollAddresses es ns) h = record { ties = t; said = tt }
  step-fair m s t (HasUnrouted d) h = record { ties = t; said = tt }
  step-fair m s t (HasAwaiting a) h = record { ties = t; said = tt }

  -- so after any calls
  pub walk-tied : (m : Model) → SoundModel m → Tied m → (cs : List Call) → ((P : Fact) → Ever m cs P → E P) → Tied (after m cs)
  walk-tied m s t [] h = t
  walk-tied m s t (c ∷ cs) h =
      walk-tied (step_of m c).model (step-sound s c) (step-fair m s t c (λ P x. h P (inl x))).ties cs (λ P x. h P (inr x))

  pub walk-said : (m : Model) → SoundModel m → Tied m → (cs : List Call) (c : Call) → ((P : Fact) → Ever m (cs ++ (c ∷ [])) P → E P)
      → All (ForCause E) (step_of (after m cs) c).actions
  walk-said m s t [] c h = (step-fair m s t c (λ P x. h P (inl x))).said
  walk-said m s t (d ∷ cs) c h =
      walk-said (step_of m d).model (step-sound s d) (step-fair m s t d (λ P x. h P (inl x))).ties cs c (λ P x. h P (inr x))

-- ---- from fresh tables

none-tied : (E : Fact → Type 0) (first : ℕ) → Tied E (fresh_of first)
none-tied E first = record { unicasts = tt; unrouted = tt; broadcasts = tt }

all-for-cause : (first : ℕ) (cs : List Call) (c : Call) → first ≤ no_id → All (ForCause (Ever (fresh_of first) (cs ++ (c ∷ [])))) (step_of (after (fresh_of first) cs) c).actions
all-for-cause first cs c l =
    let E : Fact → Type 0 = Ever (fresh_of first) (cs ++ (c ∷ [])) in
    walk-said E (fresh_of first) (fresh-sound first l) (none-tied E first) cs c (λ P x. x)

pub success-for-cause : SuccessForCause
success-for-cause first cs c e hop l x =
    all-at (ForCause (Ever (fresh_of first) (cs ++ (c ∷ [])))) (step_of (after (fresh_of first) cs) c).actions (Settled e Success hop) (all-for-cause first cs c l) x

pub handed-off-for-cause : HandedOffForCause
handed-off-for-cause first cs c i w l x =
    all-at (ForCause (Ever (fresh_of first) (cs ++ (c ∷ [])))) (step_of (after (fresh_of first) cs) c).actions (HandedOff i w) (all-for-cause first cs c l) x

-- ---- an id is issued once

next_grows : (m : Model) (c : Call) → m.next ≤ (step_of m c).model.next
next_grows m c = go c
  where
    Grows : Effect → Type 0
    Grows e = m.next ≤ e.model.next

    same : m.next ≤ m.next
    same = omega arith

    admitted : (late empty full : Bool) (m' : Model) → m.next ≤ m'.next → Grows (admitting m late empty full m')
    admitted late empty full m' l = either Grows late same (either Grows empty same (either Grows (eqb m.next no_id) same (either Grows full same l)))

    barred : (o : Option Refusal) (e : Effect) → Grows e → Grows (unless m o e)
    barred None e l = l
    barred (Some x) e l = same

    lends : (a : Option (ℕ × Priority)) (b : Option (ℕ × ℕ)) → Grows (lend_best m a b)
    lends None None = same
    lends None (Some (j, q)) = same
    lends (Some (i, p)) None = same
    lends (Some (i, p)) (Some (j, q)) = either Grows (unicast_first i (rank_of p) j q) same same

    reports : (from : Lender) (id frame : ℕ) (x : TxResult) (now delay : ℕ) → Grows (report_in m from id frame x now delay)
    reports FromUnicasts id frame x now delay = barred (unis.report_bar frame (first_of (has_id unicast_entry id) m.unicasts)) _ same
    reports FromBroadcasts id frame x now delay = barred (bro.report_bar frame (lookup broadcast_id id m.broadcasts)) _ same

    retries : (d : ℕ) (r : Retry) → Grows (retry_by m d r)
    retries d NotHeld = same
    retries d Declined = same
    retries d Granted = same

    go : (c : Call) → m.next ≤ (step_of m c).model.next
    go (EnqueueUnicast set u now) = admitted (late now) false (leb unicast_room (length m.unicasts)) _ (omega arith)
    go (EnqueueCopy set broadcast u now) = admitted (late now) false (leb unicast_room (length m.unicasts)) _ (omega arith)
    go (EnqueueUnrouted set u now) = admitted (late now) false (unr.no_room (new_unrouted m set u now) m.unrouted m.held) _ (omega arith)
    go (EnqueueBroadcast set b now) =
        admitted (late now || attempt_late b.schedule) (bro.no_copies b.schedule) (leb broadcast_room (length m.broadcasts)) _ (omega arith)
    go (Dequeue now) = either Grows (late now) same (lends (unis.best_of now m.unicasts) (bro.best_of now m.broadcasts))
    go (Transmitted from id frame x now delay) = either Grows (late now) same (reports from id frame x now delay)
    go (Poll eui nwk now) = either Grows (late now) same same
    go (AckReceived k) = same
    go (RetryDiscovery d) = retries d (unr.retry_of d m.unrouted m.held)
    go (FailUnrouted d) = same
    go (RouteUnicasts set d now n rs) =
        either Grows (late now) same
        (either Grows (matched m d now n rs) (either Grows (ltb (unicast_room - length m.unicasts) (count reached (take n rs))) same same) same)
    go (Delivered k) = same
    go (DropIndirect eui nwk) = same
    go (Cancel id) =
        either Grows (any_of (has_id unicast_entry id) m.unicasts) (barred (unis.cancel_bar (first_of (has_id unicast_entry id) m.unicasts)) _ same)
        (either Grows (any_of (has_id unrouted_entry id) m.unrouted) same (barred (cast_bar id m.unicasts (lookup broadcast_id id m.broadcasts)) _ same))
    go (Tick now) = either Grows (late now) same same
    go Abandon = same
    go NextWake = same
    go Destinations = same
    go AwaitingQuorum = same
    go (PollAddresses es ns) = same
    go (HasUnrouted d) = same
    go (HasAwaiting a) = same

nothing-wanted : {w : Want} {B : Type 0} → None ≡ Some w → B
nothing-wanted e = let z : ◌≡◌ {A = ℕ} 0 1 = cc in absurd (omega arith)

-- an enqueue that issues an id issues the next one, and draws it
pub record Draws (m m' : Model) (i : ℕ) : Type 0 where
  pub is : i ≡ m.next
  pub then : m'.next ≡ suc m.next

draws : (i : ℕ) (w : Want) (m : Model) (c : Call) → Enqueued i w m c → Draws m (step_of m c).model i
draws i w m c q = go c q.wants q.issued
  where
    denied-not : (x : Refusal) (B : Type 0) → Says (Denied x) ≡ Says (Issued i) → B
    denied-not x B e = let z : ◌≡◌ {A = ℕ} 0 1 = cc in absurd (omega arith)

    issued : (m' : Model) → m'.next ≡ suc m.next → Says (Issued m.next) ≡ Says (Issued i) → Draws m m' i
    issued m' n e = record { is = let z : m.next ≡ i = cc in omega arith; then = n }

    Good : Effect → Type 0
    Good e = Says e.answer ≡ Says (Issued i) → Draws m e.model i

    admitted : (late empty full : Bool) (m' : Model) → m'.next ≡ suc m.next → Good (admitting m late empty full m')
    admitted late empty full m' n =
        either Good late (denied-not TimeTooLate _)
        (either Good empty (denied-not NoCopies _)
        (either Good (eqb m.next no_id) (denied-not IdsExhausted _) (either Good full (denied-not NoPlace _) (issued m' n))))

    go : (c : Call) → want_of c ≡ Some w → (step_of m c).reply ≡ Says (Issued i) → Draws m (step_of m c).model i
    go (EnqueueUnicast set u now) s e = admitted (late now) false (leb unicast_room (length m.unicasts)) _ refl e
    go (EnqueueCopy set broadcast u now) s e = admitted (late now) false (leb unicast_room (length m.unicasts)) _ refl e
    go (EnqueueUnrouted set u now) s e = admitted (late now) false (unr.no_room (new_unrouted m set u now) m.unrouted m.held) _ refl e
    go (EnqueueBroadcast set b now) s e =
        admitted (late now || attempt_late b.schedule) (bro.no_copies b.schedule) (leb broadcast_room (length m.broadcasts)) _ refl e
    go (Dequeue now) s e = nothing-wanted s
    go (Transmitted from id frame x now delay) s e = nothing-wanted s
    go (Poll eui nwk now) s e = nothing-wanted s
    go (AckReceived k) s e = nothing-wanted s
    go (RetryDiscovery d) s e = nothing-wanted s
    go (FailUnrouted d) s e = nothing-wanted s
    go (RouteUnicasts set d now n rs) s e = nothing-wanted s
    go (Delivered k) s e = nothing-wanted s
    go (DropIndirect eui nwk) s e = nothing-wanted s
    go (Cancel id) s e = nothing-wanted s
    go (Tick now) s e = nothing-wanted s
    go Abandon s e = nothing-wanted s
    go NextWake s e = nothing-wanted s
    go Destinations s e = nothing-wanted s
    go AwaitingQuorum s e = nothing-wanted s
    go (PollAddresses es ns) s e = nothing-wanted s
    go (HasUnrouted d) s e = nothing-wanted s
    go (HasAwaiting a) s e = nothing-wanted s

-- what is issued from some tables on is not below their next id
issued-from : (i : ℕ) (w : Want) (m : Model) (cs : List Call) → Ever m cs (Enqueued i w) → m.next ≤ i
issued-from i w m [] h = absurd h
issued-from i w m (c ∷ cs) h =
    ⊎_elim (λ x. let z : i ≡ m.next = (draws i w m c x).is in omega arith)
    (λ x. omega (arith, next_grows m c, issued-from i w (step_of m c).model cs x)) h

same-want : {v w : Want} {o : Option Want} → o ≡ Some v → o ≡ Some w → v ≡ w
same-want p q = cc

one-want-from : (i : ℕ) (v w : Want) (m : Model) (cs : List Call) → Ever m cs (Enqueued i v) → Ever m cs (Enqueued i w) → v ≡ w
one-want-from i v w m [] x y = absurd x
one-want-from i v w m (c ∷ cs) x y =
    ⊎_elim
    (λ (a : Enqueued i v m c). ⊎_elim (λ (b : Enqueued i w m c). same-want a.wants b.wants) (λ b. absurd (twice v a w b)) y)
    (λ a. ⊎_elim (λ (b : Enqueued i w m c). absurd (twice w b v a)) (λ b. one-want-from i v w (step_of m c).model cs a b) y)
    x
  where
    twice : (v : Want) → Enqueued i v m c → (w : Want) → Ever (step_of m c).model cs (Enqueued i w) → ⊥
    twice v a w b = omega (arith, (draws i v m c a).is, (draws i v m c a).then, issued-from i w (step_of m c).model cs b)

pub one-want : OneWant
one-want first cs i v w x y = one-want-from i v w (fresh_of first) cs x y

-- ---- a poll, and a failed transmit

pub poll-tells-nothing : PollTellsNothing
poll-tells-nothing m eui nwk now = either (λ (e : Effect). e.actions ≡ []) (late now) refl refl

abbrev Fails : Verdict → Type 0
Fails Success = ⊥
Fails (Failure f) = Unit {0}
Fails (Code c) = Unit {0}

abbrev NoSuccess : Action → Type 0
NoSuccess (HandedOff i w) = Unit {0}
NoSuccess (Settled e v h) = Fails v

module _ (E : Fact → Type 0) (code now delay : ℕ) (u : Unicast) (t : TiedU E u) (none_came : (k : AckKey) → E (Acked u.id k) → ⊥) where
  abbrev Tells : Turn Unicast → Type 0
  Tells x = All NoSuccess (told (unicast_entry u) x)

  failed-tells : Tells (uni.report_turn (Err code) now delay u)
  failed-tells = go u.stage t.stage
    where
      not-acked : (w : Want) → AckCame E u.id w → ⊥
      not-acked (AnAck k) a = none_came k a
      not-acked AReport a = a
      not-acked (AReportAndQuorum k) a = a

      held : Tells (uni.fail_held u code now)
      held = either Tells (ltb now u.deadline) tt (tt, tt)

      failed : (a : Address) → Tells (uni.fail_by u code now delay a)
      failed Absent = either Tells (eqb u.attempts_remaining 0) (tt, tt) tt
      failed (Short n) = held
      failed (Extended n) = held

      go : (s : Stage) → StageFor E u.id (confirm_want u.confirm) s → Tells (uni.report_by u (Err code) now delay s)
      go Queued f = tt
      go (Transmitting true) f = absurd (not-acked (confirm_want u.confirm) f)
      go (Transmitting false) f = failed u.poll_address
      go (Retrying x) f = tt
      go AwaitingPoll f = tt
      go AwaitingApsAck f = tt

pub failed-is-no-success : FailedIsNoSuccess
failed-is-no-success first cs i frame code now delay e hop l unacked x =
    all-at NoSuccess (transmitted_of m FromUnicasts i frame (Err code) now delay).actions (Settled e Success hop)
    (either Quiet (late now) tt (go (unis.report_bar frame (first_of (has_id unicast_entry i) m.unicasts)))) x
  where
    E : Fact → Type 0
    E = Ever (fresh_of first) cs

    m : Model
    m = after (fresh_of first) cs

    Quiet : Effect → Type 0
    Quiet f = All NoSuccess f.actions

    f : Unicast → Turn Unicast
    f = uni.report_turn (Err code) now delay

    tied : All (TiedU E) m.unicasts
    tied = (walk-tied E (fresh_of first) (fresh-sound first l) (none-tied E first) cs (λ P x. x)).unicasts

    at : (o : Option Unicast) → first_of (has_id unicast_entry i) m.unicasts ≡ o → All NoSuccess (at_first_told unicast_entry (has_id unicast_entry i) f m.unicasts)
    at None p = subst (All NoSuccess) (sym (told-missed unicast_entry (has_id unicast_entry i) f m.unicasts p)) tt
    at (Some u) p =
        let is : u.id ≡ i = eqb-true u.id i (first-has unicast_id (has_id unicast_entry i) m.unicasts u p) in
        subst (All NoSuccess) (sym (told-found unicast_entry (has_id unicast_entry i) f m.unicasts u p))
        (failed-tells E code now delay u (all-at (TiedU E) m.unicasts u tied (first-there (has_id unicast_entry i) m.unicasts u p))
        (λ k a. unacked k (subst (λ (j : ℕ). E (Acked j k)) is a)))

    go : (o : Option Refusal) → Quiet (unless m o (turn_unicast m (has_id unicast_entry i) f))
    go None = at (first_of (has_id unicast_entry i) m.unicasts) refl
    go (Some y) = tt
