-- No call makes more than 112 actions, and full tables past their deadlines make that many: specs/Claims. Assumes nothing.
use Rattle.std.specs.Prelude.{Option, None, Some, Ok, Err}
use Prim.Native.Nat.{ℕ, zero, suc, ◌+◌, ◌-◌, ◌*◌, ◌≤◌, ◌<◌}
use native.Mathlib.Omega.{arith}
use mathlib.Core.Path.{◌≡◌, refl, sym}
use mathlib.Core.Bool.{Bool, true, false, ◌||◌}
use mathlib.Core.List.{List, [], ◌∷◌, ◌++◌}
use mathlib.Core.Logic.{◌⊎◌, inl, inr, ⊎_elim}
use lib.ListN.{length, take, length-append}
use lib.Dec.{ltb, eqb}
use borrow.Author.Tests.{eq-eqb, ne_eqb}
use Rattle.records.specs.Pick.{pick}
use Rattle.records.specs.Limits.{no_id, unicast_room}
use Rattle.records.specs.Priorities.{rank_of}
use Rattle.records.specs.Records.{unrouted_id, broadcast_id, unicast_entry, unrouted_entry, broadcast_entry}
use Rattle.records.specs.declared.Entry.{Entry}
use Rattle.records.specs.declared.Stage.TheVariants.{AwaitingApsAck}
use Rattle.records.specs.declared.CopyState.TheVariants.{CopyQueued}
use Rattle.records.specs.declared.Priority.TheVariants.{Background}
use Rattle.records.specs.declared.Confirm.TheVariants.{OnHandoff}
use Rattle.records.specs.declared.Address.TheVariants.{Absent}
use Rattle.records.proofs.Cases.{lt-or-le, eq-or-ne, either, never}
use Rattle.rows.specs.Lists.{All, Rising, lookup}
use Rattle.rows.specs.Moves.{count, first_of, any_of, each_told, at_first_told, id_of, has_id}
use Rattle.rows.specs.declared.Turn.{Turn}
use Rattle.rows.proofs.Promises.{each-length, rising-lower}
use Rattle.sending.specs.Rules as uni
use Rattle.unrouted.specs.Rules as unr
use Rattle.casting.specs.Rules as bro
use Rattle.sending.specs.Lists as unis
use Rattle.casting.specs.Claims.{Sane}
use Rattle.model.specs.Types.{NewUnicast, NewUnrouted, NewBroadcast, Settings, Unicast, Unrouted, Broadcast, FixedInterval, Lapsed, Bound, Retry, NotHeld, Declined, Granted, Resolved, Lender, FromUnicasts, FromBroadcasts, TxResult, Action, Refusal}
use Rattle.model.specs.Model.{Model, Effect}
use Rattle.model.specs.Calls.{late, attempt_late, reached, matched, unless, enqueue_of, enqueue_unrouted_of, enqueue_broadcast_of, admitting, only, failing, lapsed, ticked, lend_best, unicast_first, report_in, fail_of, drop_of, cancel_of, route_of, retry_by, cast_bar, cancel_unrouted, turn_unicast, turn_broadcast}
use Rattle.model.specs.Steps.Call.{EnqueueUnicast, EnqueueCopy, EnqueueUnrouted, EnqueueBroadcast, Dequeue, Transmitted, Poll, AckReceived, RetryDiscovery, FailUnrouted, RouteUnicasts, Delivered, DropIndirect, Cancel, Tick, Abandon, NextWake, Destinations, AwaitingQuorum, PollAddresses, HasUnrouted, HasAwaiting}
use Rattle.model.specs.Sound.{SoundModel}
use Rattle.model.proofs.Fews.{each_two, first_two, sweep-one}
use Rattle.model.specs.Claims.{unicasts_full, unrouted_full, broadcasts_full, FewActions, Busiest}
use Rattle.records.specs.declared.Priority.{Priority}

-- ---- how many actions a move tells

only-length : {A : Type 0} (q : A → Bool) (xs : List A) → length (only q xs) ≤ length xs
only-length q [] = omega arith
only-length q (x ∷ xs) =
    let ih : length (only q xs) ≤ length xs = only-length q xs in
    either (λ (l : List _). length l ≤ suc (length xs)) (q x) (omega arith) (omega arith)

failing-few : (us : List Unrouted) (rs : List Resolved) → length (failing us rs) ≤ length us
failing-few [] rs = omega arith
failing-few (u ∷ us) [] = omega arith
failing-few (u ∷ us) (Ok (hop, a) ∷ rs) = omega (arith, failing-few us rs)
failing-few (u ∷ us) (Err c ∷ rs) = omega (arith, failing-few us rs)

-- ---- no call makes more

record Few (e : Effect) : Type 0 where
  most : length e.actions ≤ 112

few : (b : Bool) {e f : Effect} → Few e → Few f → Few (pick b e f)
few b p q = either Few b p q

quiet : {e : Effect} → e.actions ≡ [] → Few e
quiet p = record { most = rw p (omega arith) }

module _ (m : Model) where
  barred : (o : Option Refusal) (e : Effect) → Few e → Few (unless m o e)
  barred None e f = f
  barred (Some x) e f = quiet refl

  admits : (late empty full : Bool) (m' : Model) → Few (admitting m late empty full m')
  admits late empty full m' = few late (quiet refl) (few empty (quiet refl) (few (eqb m.next no_id) (quiet refl) (few full (quiet refl) (quiet refl))))

  enqueues : (st : Settings) (u : NewUnicast) (copy : Option ℕ) (now : ℕ) → Few (enqueue_of m st u copy now)
  enqueues st u copy now = admits (late now) false (unicasts_full m) _

  enqueues-unrouted : (st : Settings) (u : NewUnrouted) (now : ℕ) → Few (enqueue_unrouted_of m st u now)
  enqueues-unrouted st u now = admits (late now) false (unrouted_full m u.destination) _

  enqueues-broadcast : (st : Settings) (b : NewBroadcast) (now : ℕ) → Few (enqueue_broadcast_of m st b now)
  enqueues-broadcast st b now = admits (late now || attempt_late b.schedule) (bro.no_copies b.schedule) (broadcasts_full m) _

  lends : (a : Option (ℕ × Priority)) (b : Option (ℕ × ℕ)) → Few (lend_best m a b)
  lends None None = quiet refl
  lends None (Some (j, q)) = quiet refl
  lends (Some (i, p)) None = quiet refl
  lends (Some (i, p)) (Some (j, q)) = few (unicast_first i (rank_of p) j q) (quiet refl) (quiet refl)

  unicast-turn : (q : Unicast → Bool) (f : Unicast → Turn Unicast) → Few (turn_unicast m q f)
  unicast-turn q f = record { most = omega (arith, first_two unicast_entry q f m.unicasts) }

  broadcast-turn : (q : Broadcast → Bool) (f : Broadcast → Turn Broadcast) → Few (turn_broadcast m q f)
  broadcast-turn q f = record { most = omega (arith, first_two broadcast_entry q f m.broadcasts) }

  unrouted-turn : (id : ℕ) → Few (cancel_unrouted m id)
  unrouted-turn id = record { most = omega (arith, first_two unrouted_entry (has_id unrouted_entry id) unr.cancel_turn m.unrouted) }

  reports : (from : Lender) (id frame : ℕ) (x : TxResult) (now delay : ℕ) → Few (report_in m from id frame x now delay)
  reports FromUnicasts id frame x now delay = barred (unis.report_bar frame (first_of (has_id unicast_entry id) m.unicasts)) _ (unicast-turn (has_id unicast_entry id) (uni.report_turn x now delay))
  reports FromBroadcasts id frame x now delay = barred (bro.report_bar frame (lookup broadcast_id id m.broadcasts)) _ (broadcast-turn (has_id broadcast_entry id) (bro.report_turn x now delay))

  retries : (d : ℕ) (r : Retry) → Few (retry_by m d r)
  retries d NotHeld = quiet refl
  retries d Declined = quiet refl
  retries d Granted = quiet refl

  module _ (s : SoundModel m) where
    sweeps : (d : ℕ) → Few (fail_of m d)
    sweeps d = record { most = omega (arith, sweep-one (Bound d) m.unrouted, s.unrouted.within) }

    drops : (eui : Option ℕ) (nwk : ℕ) → Few (drop_of m eui nwk)
    drops eui nwk = record { most = omega (arith, each_two unicast_entry (uni.drop_turn eui nwk) m.unicasts, s.unicasts.within) }

    routes : (st : Settings) (d now n : ℕ) (rs : List Resolved) → Few (route_of m st d now n rs)
    routes st d now n rs =
        let ts : List Action = each_told unrouted_entry (unr.sweep_turn (Lapsed now)) m.unrouted in
        let us : List Unrouted = only (unr.goes_to d) (lapsed m now) in
        let t : length ts ≤ 1 * length m.unrouted = sweep-one (Lapsed now) m.unrouted in
        let u : length us ≤ length (lapsed m now) = only-length (unr.goes_to d) (lapsed m now) in
        let l : length (lapsed m now) ≤ length m.unrouted = each-length (unr.sweep_turn (Lapsed now)) m.unrouted in
        few (late now) (quiet refl)
        (few (matched m d now n rs)
        (few (ltb (unicast_room - length m.unicasts) (count reached (take n rs))) (quiet refl)
        (record { most = omega (arith, length-append ts (failing us (take n rs)), failing-few us (take n rs), s.unrouted.within) }))
        (quiet refl))

    cancels : (id : ℕ) → Few (cancel_of m id)
    cancels id =
        let bs : List Action = at_first_told broadcast_entry (has_id broadcast_entry id) bro.cancel_turn m.broadcasts in
        let us : List Action = each_told unicast_entry (uni.copy_turn id) m.unicasts in
        let b : length bs ≤ 2 = first_two broadcast_entry (has_id broadcast_entry id) bro.cancel_turn m.broadcasts in
        let u : length us ≤ 2 * length m.unicasts = each_two unicast_entry (uni.copy_turn id) m.unicasts in
        few (any_of (has_id unicast_entry id) m.unicasts)
        (barred (unis.cancel_bar (first_of (has_id unicast_entry id) m.unicasts)) _ (unicast-turn (has_id unicast_entry id) uni.cancel_turn))
        (few (any_of (has_id unrouted_entry id) m.unrouted) (unrouted-turn id)
        (barred (cast_bar id m.unicasts (lookup broadcast_id id m.broadcasts)) _ (record { most = omega (arith, length-append bs us, s.unicasts.within) })))

    ticks : (now : ℕ) → Few (ticked m now)
    ticks now =
        let us : List Action = each_told unicast_entry (uni.tick_turn now) m.unicasts in
        let rs : List Action = each_told unrouted_entry (unr.sweep_turn (Lapsed now)) m.unrouted in
        let bs : List Action = each_told broadcast_entry (bro.tick_turn now) m.broadcasts in
        let u : length us ≤ 2 * length m.unicasts = each_two unicast_entry (uni.tick_turn now) m.unicasts in
        let r : length rs ≤ 1 * length m.unrouted = sweep-one (Lapsed now) m.unrouted in
        let b : length bs ≤ 2 * length m.broadcasts = each_two broadcast_entry (bro.tick_turn now) m.broadcasts in
        record { most = omega (arith, length-append us (rs ++ bs), length-append rs bs, s.unicasts.within, s.unrouted.within, s.broadcasts.within) }

pub few-actions : FewActions
few-actions m (EnqueueUnicast st u now) s = (enqueues m st u None now).most
few-actions m (EnqueueCopy st broadcast u now) s = (enqueues m st u (Some broadcast) now).most
few-actions m (EnqueueUnrouted st u now) s = (enqueues-unrouted m st u now).most
few-actions m (EnqueueBroadcast st b now) s = (enqueues-broadcast m st b now).most
few-actions m (Dequeue now) s = (few (late now) (quiet refl) (lends m (unis.best_of now m.unicasts) (bro.best_of now m.broadcasts))).most
few-actions m (Transmitted from id frame x now delay) s = (few (late now) (quiet refl) (reports m from id frame x now delay)).most
few-actions m (Poll eui nwk now) s = (few (late now) (quiet refl) (quiet refl)).most
few-actions m (AckReceived k) s = (unicast-turn m (uni.keyed k) uni.ack_turn).most
few-actions m (RetryDiscovery d) s = (retries m d (unr.retry_of d m.unrouted m.held)).most
few-actions m (FailUnrouted d) s = (sweeps m s d).most
few-actions m (RouteUnicasts st d now n rs) s = (routes m s st d now n rs).most
few-actions m (Delivered k) s = (broadcast-turn m (bro.keyed k) bro.delivered_turn).most
few-actions m (DropIndirect eui nwk) s = (drops m s eui nwk).most
few-actions m (Cancel id) s = (cancels m s id).most
few-actions m (Tick now) s = (few (late now) (quiet refl) (ticks m s now)).most
few-actions m Abandon s = omega arith
few-actions m NextWake s = omega arith
few-actions m Destinations s = omega arith
few-actions m AwaitingQuorum s = omega arith
few-actions m (PollAddresses es ns) s = omega arith
few-actions m (HasUnrouted d) s = omega arith
few-actions m (HasAwaiting a) s = omega arith

-- ---- the bound is reached

module _ {A : Type 0} (f : ℕ → A) where
  -- n records, with the ids from lo on
  abbrev from : ℕ → ℕ → List A
  from lo zero = []
  from lo (suc n) = f lo ∷ from (suc lo) n

  all_from : (P : A → Type 0) → ((i : ℕ) → P (f i)) → (lo n : ℕ) → All P (from lo n)
  all_from P p lo zero = tt
  all_from P p lo (suc n) = (p lo, all_from P p (suc lo) n)

  module _ (entry : A → Entry) (is : (i : ℕ) → id_of entry (f i) ≡ i) where
    rising-from : (lo n : ℕ) → Rising (id_of entry) lo (from lo n)
    rising-from lo zero = tt
    rising-from lo (suc n) = rw (is lo) (omega arith, rising-from (suc lo) n)

    -- an id is there once where it is between, and else not
    count-out : (lo n i : ℕ) → (i < lo) ⊎ (lo + n ≤ i) → count (has_id entry i) (from lo n) ≡ 0
    count-out lo zero i h = refl
    count-out lo (suc n) i h =
        let e : count (has_id entry i) (from (suc lo) n) ≡ 0 = count-out (suc lo) n i (⊎_elim (λ (l : i < lo). inl (omega arith)) (λ (l : lo + suc n ≤ i). inr (omega arith)) h) in
        let z : lo ≡ i → ⊥ = ⊎_elim (λ (l : i < lo) q. omega arith) (λ (l : lo + suc n ≤ i) q. omega arith) h in
        rw (is lo, ne_eqb lo i z) (omega arith)

    count-one : (lo n i : ℕ) → count (has_id entry i) (from lo n) ≤ 1
    count-one lo zero i = omega arith
    count-one lo (suc n) i =
        rw (is lo)
        (⊎_elim
        (λ (e : lo ≡ i). rw (eq-eqb lo i e) (omega (arith, count-out (suc lo) n i (inl (omega arith)))))
        (λ (e : lo ≡ i → ⊥). rw (ne_eqb lo i e) (omega (arith, count-one (suc lo) n i)))
        (eq-or-ne lo i))

-- a unicast that awaits its ack, an unrouted send, a broadcast that was handed off: each past its deadline
abbrev late_unicast : ℕ → Unicast
late_unicast i =
    record {
      id = i;
      frame = 0;
      waiter = 0;
      priority = Background;
      confirm = OnHandoff;
      next_hop = 0;
      poll_address = Absent;
      attempts_remaining = 0;
      stage = AwaitingApsAck;
      deadline = 0;
      copy_of = None;
    }

abbrev late_unrouted : ℕ → Unrouted
late_unrouted i = record { id = i; frame = 0; waiter = 0; priority = Background; confirm = OnHandoff; destination = 0; deadline = 0 }

abbrev late_broadcast : ℕ → Broadcast
late_broadcast i =
    record {
      id = i;
      frame = 0;
      waiter = 0;
      priority = Background;
      schedule = FixedInterval 0 1 0;
      copy = CopyQueued;
      handed_off = true;
      quorum_heard = false;
      last_error = None;
      deadline = 0;
    }

abbrev full_model : Model
full_model =
    record {
      next = 64;
      unicasts = from late_unicast 0 32;
      unrouted = from late_unrouted 32 16;
      held = record { address = 0; retries = 0 } ∷ [];
      broadcasts = from late_broadcast 48 16;
    }

full-sound : SoundModel full_model
full-sound =
    record {
      unicasts = record { rising = rising-from late_unicast unicast_entry (λ i. refl) 0 32; within = omega arith };
      unrouted = record { rising = rising-lower unrouted_id 32 0 (from late_unrouted 32 16) (omega arith) (rising-from late_unrouted unrouted_entry (λ i. refl) 32 16); within = omega arith };
      held = record { rising = (omega arith, tt); within = omega arith };
      broadcasts = record { rising = rising-lower broadcast_id 48 0 (from late_broadcast 48 16) (omega arith) (rising-from late_broadcast broadcast_entry (λ i. refl) 48 16); within = omega arith };
      last = omega arith;
      below = λ i (h : 64 ≤ i). omega (arith, out-u i (inr (omega arith)), out-r i (inr (omega arith)), out-b i (inr (omega arith)));
      once = λ i. ⊎_elim
          (λ (h : i < 32). omega (arith, one-u i, out-r i (inl (omega arith)), out-b i (inl (omega arith))))
          (λ (h : 32 ≤ i). ⊎_elim
          (λ (k : i < 48). omega (arith, one-r i, out-u i (inr (omega arith)), out-b i (inl (omega arith))))
          (λ (k : 48 ≤ i). omega (arith, one_b i, out-u i (inr (omega arith)), out-r i (inr (omega arith))))
          (lt-or-le i 48))
          (lt-or-le i 32);
      waiting = all_from late_unrouted (λ (u : Unrouted). unr.is_held u.destination full_model.held ≡ true) (λ i. refl) 32 16;
      sane = all_from late_broadcast Sane (λ i. record { once = λ e. never e; error = λ e f g. never (sym g) }) 48 16;
    }
  where
    out-u : (i : ℕ) → (i < 0) ⊎ (0 + 32 ≤ i) → count (has_id unicast_entry i) (from late_unicast 0 32) ≡ 0
    out-u i h = count-out late_unicast unicast_entry (λ j. refl) 0 32 i h

    out-r : (i : ℕ) → (i < 32) ⊎ (32 + 16 ≤ i) → count (has_id unrouted_entry i) (from late_unrouted 32 16) ≡ 0
    out-r i h = count-out late_unrouted unrouted_entry (λ j. refl) 32 16 i h

    out-b : (i : ℕ) → (i < 48) ⊎ (48 + 16 ≤ i) → count (has_id broadcast_entry i) (from late_broadcast 48 16) ≡ 0
    out-b i h = count-out late_broadcast broadcast_entry (λ j. refl) 48 16 i h

    one-u : (i : ℕ) → count (has_id unicast_entry i) (from late_unicast 0 32) ≤ 1
    one-u i = count-one late_unicast unicast_entry (λ j. refl) 0 32 i

    one-r : (i : ℕ) → count (has_id unrouted_entry i) (from late_unrouted 32 16) ≤ 1
    one-r i = count-one late_unrouted unrouted_entry (λ j. refl) 32 16 i

    one_b : (i : ℕ) → count (has_id broadcast_entry i) (from late_broadcast 48 16) ≤ 1
    one_b i = count-one late_broadcast broadcast_entry (λ j. refl) 48 16 i

pub busiest : Busiest
busiest = record { model = full_model; sound = full-sound; call = Tick 0; makes = refl }
