-- Every call keeps the tables sound, and so every history of calls from fresh tables does. Assumes nothing.
use Rattle.std.specs.Prelude.{Option, None, Some}
use Prim.Native.Nat.{ℕ, suc, ◌+◌, ◌-◌, ◌≤◌, ◌<◌}
use native.Mathlib.Omega.{arith}
use mathlib.Core.Path.{◌≡◌, refl, ap, ◌∙◌}
use mathlib.Core.Bool.{Bool, true, false, not, ◌||◌}
use mathlib.Core.List.{List, [], ◌∷◌}
use mathlib.Core.Logic.{⊎_elim}
use lib.ListN.{length, take}
use lib.Dec.{ltb, leb, eqb}
use borrow.Author.Tests.{eqb-false, ltb-false, leb-false, not-true, eq-eqb, ne_eqb}
use Rattle.records.specs.Pick.{bit}
use Rattle.records.specs.Limits.{no_id, unicast_room, unrouted_room, destination_room, broadcast_room}
use Rattle.records.specs.Records.{unicast_id, unrouted_id, broadcast_id, destination_address, unicast_entry, unrouted_entry, broadcast_entry}
use Rattle.records.specs.Priorities.{rank_of}
use Rattle.records.proofs.Cases.{either, either-by, eq-or-ne}
use Rattle.rows.specs.Lists.{All, insert_by, remove_by, lookup}
use Rattle.rows.specs.Moves.{kept, at_first, first_of, any_of, count, has_id, Same}
use Rattle.rows.specs.declared.Turn.{Turn}
use Rattle.rows.specs.declared.Turn.TheVariants.{Keeps, HandsOff, Settles}
use Rattle.casting.specs.Claims.{Sane, Leaves}
use Rattle.casting.specs.Rules as bro
use Rattle.casting.proofs.Entries.{same-dequeue, same-cancel, same-report, same-delivered, same-tick}
use Rattle.casting.proofs.Sanes.{sane-admitted, sane-dequeue, sane-report, sane-delivered, sane-tick}
use Rattle.sending.specs.Rules as uni
use Rattle.sending.specs.Lists as unis
use Rattle.sending.proofs.Turns.{lend_same, poll-same, cancel-same, ack-same, report-same, tick-same, drop-same, copy-same}
use Rattle.unrouted.specs.Rules as unr
use Rattle.unrouted.proofs.Exact.{sweep-same}
use Rattle.model.specs.Types.{AckKey, QuorumKey, Unicast, Unrouted, Destination, Broadcast, Settings, TxResult, Refusal, Lapsed, Bound, Retry, NotHeld, Declined, Granted, NewUnicast, NewUnrouted, NewBroadcast, Resolved, Lender, FromUnicasts, FromBroadcasts}
use Rattle.model.specs.Model.{Model, Effect, fresh_of, with_unicasts, with_unrouted, with_broadcasts}
use Rattle.model.specs.Calls.{late, unless, only, reached, matched, lapsed, routing, route_of, admitting, drawn, new_unicast, enqueue_of, enqueue_unicast_of, enqueue_copy_of, new_unrouted, enqueue_unrouted_of, attempt_late, new_broadcast, enqueue_broadcast_of, lend_unicast, lend_broadcast, unicast_first, lend_best, dequeue_of, report_in, transmitted_of, poll_of, ack_of, drop_of, delivered_of, retry_by, retry_of, fail_of, cast_bar, cancel_of, tick_of, emptied}
use Rattle.model.specs.Steps.{Call, step_of, after}
use Rattle.model.specs.Steps.Call.{EnqueueUnicast, EnqueueCopy, EnqueueUnrouted, EnqueueBroadcast, Dequeue, Transmitted, Poll, AckReceived, RetryDiscovery, FailUnrouted, RouteUnicasts, Delivered, DropIndirect, Cancel, Tick, Abandon, NextWake, Destinations, AwaitingQuorum, PollAddresses, HasUnrouted, HasAwaiting}
use Rattle.model.specs.Sound.{Kept, live_with, SoundModel}
use Rattle.model.proofs.Kepts.{all_map, all-each, all_first, all_insert, kept-insert, kept-remove, kept-only, only-count, all-only, insert-fewer, Shrinks, stays, shrinks-each, shrinks-first}
use Rattle.model.proofs.Holds.{room-means, held-still, held_new, held_kept, held-without, spent-kept, spent-held}
use Rattle.model.proofs.Routes.{entering-rising, entering-length, entering-fewer}
use Rattle.records.specs.declared.Priority.{Priority}

-- ---- ids

-- the next is not past the one never given, no live send has it or a later one, and each is live once
pub record Ids (m : Model) : Type 0 where
  pub last : m.next ≤ no_id
  pub below : (i : ℕ) → m.next ≤ i → live_with i m ≡ 0
  pub once : (i : ℕ) → live_with i m ≤ 1

module _ {m : Model} (d : SoundModel m) where
  -- no id has more than before
  pub ids-fewer : (m' : Model) → m'.next ≡ m.next → ((i : ℕ) → live_with i m' ≤ live_with i m) → Ids m'
  ids-fewer m' e h =
      record {
        last = omega (arith, d.last);
        below = λ i l. omega (arith, h i, d.below i (omega arith));
        once = λ i. omega (arith, h i, d.once i);
      }

  -- one more has the id that was next
  pub ids-drawn : (m' : Model) → m'.next ≡ suc m.next → m.next < no_id → ((i : ℕ) → live_with i m' ≤ bit (eqb m.next i) + live_with i m) → Ids m'
  ids-drawn m' e l h =
      record {
        last = omega arith;
        below = λ i k. let o : bit (eqb m.next i) ≡ 0 = ap bit (ne_eqb m.next i (λ q. omega arith)) in omega (arith, h i, d.below i (omega arith));
        once = λ i.
            ⊎_elim
            (λ q. let o : bit (eqb m.next i) ≡ 1 = ap bit (eq-eqb m.next i q) in omega (arith, h i, d.below i (omega arith)))
            (λ q. let o : bit (eqb m.next i) ≡ 0 = ap bit (ne_eqb m.next i q) in omega (arith, h i, d.once i))
            (eq-or-ne m.next i);
      }

-- ---- whatever the call

-- the tables that the effect leaves are sound
abbrev Good : Effect → Type 0
Good e = SoundModel e.model

-- what an unrouted send waits for is held
abbrev Waits : List Destination → Unrouted → Type 0
Waits hs u = unr.is_held u.destination hs ≡ true

-- what a turn leaves is sane, as a list
leaves_all : (t : Turn Broadcast) → Leaves t → All Sane (kept t)
leaves_all (Keeps b) h = (h, tt)
leaves_all (HandsOff b) h = (h, tt)
leaves_all (Settles again v w) h = tt

-- soundness from its parts
sound-by : {m : Model} → Ids m → Kept unicast_id unicast_room m.unicasts → Kept unrouted_id unrouted_room m.unrouted
    → Kept destination_address destination_room m.held → Kept broadcast_id broadcast_room m.broadcasts → All (Waits m.held) m.unrouted → All Sane m.broadcasts
    → SoundModel m
sound-by d a b h c w n =
    record {
      unicasts = a;
      unrouted = b;
      held = h;
      broadcasts = c;
      last = d.last;
      below = d.below;
      once = d.once;
      waiting = w;
      sane = n;
    }

-- nothing is in no table
bare : {A : Type 0} {key : A → ℕ} {room : ℕ} → Kept key room []
bare = record { rising = tt; within = omega arith }

pub fresh-sound : (first : ℕ) → first ≤ no_id → SoundModel (fresh_of first)
fresh-sound first l = sound-by (record { last = l; below = λ i h. refl; once = λ i. omega arith }) bare bare bare bare tt tt

module _ {m : Model} (s : SoundModel m) where
  -- each table shrinks, and what is left has what it waits for
  shrunk : {us : List Unicast} {rs : List Unrouted} {hs : List Destination} {bs : List Broadcast} → Shrinks unicast_entry unicast_room m.unicasts us
      → Shrinks unrouted_entry unrouted_room m.unrouted rs → Shrinks broadcast_entry broadcast_room m.broadcasts bs → Kept destination_address destination_room hs
      → All (Waits hs) rs → All Sane bs → SoundModel (record { next = m.next; unicasts = us; unrouted = rs; held = hs; broadcasts = bs })
  shrunk {us} {rs} {hs} {bs} a b c h w n =
      let m' : Model = record { next = m.next; unicasts = us; unrouted = rs; held = hs; broadcasts = bs } in
      sound-by (ids-fewer s m' refl (λ i. omega (arith, a.fewer i, b.fewer i, c.fewer i))) a.kept b.kept h c.kept w n

  same-unicasts : Shrinks unicast_entry unicast_room m.unicasts m.unicasts
  same-unicasts = stays unicast_entry s.unicasts

  same-unrouted : Shrinks unrouted_entry unrouted_room m.unrouted m.unrouted
  same-unrouted = stays unrouted_entry s.unrouted

  same-broadcasts : Shrinks broadcast_entry broadcast_room m.broadcasts m.broadcasts
  same-broadcasts = stays broadcast_entry s.broadcasts

  -- only unicasts, only unrouted sends with what they wait for, only broadcasts
  on-unicasts : {us : List Unicast} → Shrinks unicast_entry unicast_room m.unicasts us → SoundModel (with_unicasts m us)
  on-unicasts a = shrunk a same-unrouted same-broadcasts s.held s.waiting s.sane

  on-unrouted : {rs : List Unrouted} {hs : List Destination} → Shrinks unrouted_entry unrouted_room m.unrouted rs → Kept destination_address destination_room hs
      → All (Waits hs) rs → SoundModel (with_unrouted m rs hs)
  on-unrouted b h w = shrunk same-unicasts b same-broadcasts h w s.sane

  on-broadcasts : {bs : List Broadcast} → Shrinks broadcast_entry broadcast_room m.broadcasts bs → All Sane bs → SoundModel (with_broadcasts m bs)
  on-broadcasts c n = shrunk same-unicasts same-unrouted c s.held s.waiting n

  turned-unicast : (q : Unicast → Bool) (f : Unicast → Turn Unicast) → ((u : Unicast) → Same unicast_entry u (f u))
      → SoundModel (with_unicasts m (at_first q f m.unicasts))
  turned-unicast q f h = on-unicasts (shrinks-first unicast_entry s.unicasts f h q)

  turned-broadcast : (q : Broadcast → Bool) (f : Broadcast → Turn Broadcast) → ((b : Broadcast) → Same broadcast_entry b (f b))
      → ((b : Broadcast) → Sane b → Leaves (f b)) → SoundModel (with_broadcasts m (at_first q f m.broadcasts))
  turned-broadcast q f h n =
      on-broadcasts (shrinks-first broadcast_entry s.broadcasts f h q) (all_first Sane q f (λ b z. leaves_all (f b) (n b z)) m.broadcasts s.sane)

  -- a refusal changes nothing, so only what happens without one is asked
  unless-sound : (o : Option Refusal) (e : Effect) → Good e → Good (unless m o e)
  unless-sound None e h = h
  unless-sound (Some x) e h = s

  -- ---- enqueues

  admitting-sound : (late empty full : Bool) (m' : Model) → (empty ≡ false → m.next < no_id → full ≡ false → SoundModel m') → Good (admitting m late empty full m')
  admitting-sound late empty full m' h =
      either Good late s
      (either-by Good empty (λ e. s)
      (λ e.
      either-by Good (eqb m.next no_id) (λ n. s) (λ n. either-by Good full (λ f. s) (h e (omega (arith, eqb-false m.next no_id n, s.last))))))

  enqueue-sound : (set : Settings) (u : NewUnicast) (copy : Option ℕ) (now : ℕ) → Good (enqueue_of m set u copy now)
  enqueue-sound set u copy now =
      let v : Unicast = new_unicast m set u copy now in
      let m' : Model = with_unicasts (drawn m) (insert_by unicast_id v m.unicasts) in
      admitting-sound (late now) false (leb unicast_room (length m.unicasts)) m'
      (λ e l f.
      sound-by (ids-drawn s m' refl l (λ i. omega (arith, insert-fewer unicast_entry i v m.unicasts)))
      (kept-insert unicast_id v (leb-false unicast_room (length m.unicasts) f) s.unicasts) s.unrouted s.held s.broadcasts s.waiting s.sane)

  pub enqueue-unicast-sound : (set : Settings) (u : NewUnicast) (now : ℕ) → SoundModel (enqueue_unicast_of m set u now).model
  enqueue-unicast-sound set u now = enqueue-sound set u None now

  pub enqueue-copy-sound : (set : Settings) (broadcast : ℕ) (u : NewUnicast) (now : ℕ) → SoundModel (enqueue_copy_of m set broadcast u now).model
  enqueue-copy-sound set broadcast u now = enqueue-sound set u (Some broadcast) now

  pub enqueue-unrouted-sound : (set : Settings) (u : NewUnrouted) (now : ℕ) → SoundModel (enqueue_unrouted_of m set u now).model
  enqueue-unrouted-sound set u now =
      let v : Unrouted = new_unrouted m set u now in
      let hs : List Destination = unr.holding set.discovery_attempts u.destination m.held in
      let m' : Model = with_unrouted (drawn m) (insert_by unrouted_id v m.unrouted) hs in
      admitting-sound (late now) false (unr.no_room v m.unrouted m.held) m'
      (λ e l f.
      let room = room-means v m.unrouted m.held f in
      sound-by (ids-drawn s m' refl l (λ i. omega (arith, insert-fewer unrouted_entry i v m.unrouted))) s.unicasts
      (kept-insert unrouted_id v room.0 s.unrouted) (held_kept set.discovery_attempts u.destination m.held room.1 s.held) s.broadcasts
      (all_insert (Waits hs) unrouted_id v (held_new set.discovery_attempts u.destination m.held) m.unrouted
      (all_map (Waits m.held) (Waits hs) (λ w. held-still set.discovery_attempts u.destination m.held w.destination) m.unrouted s.waiting))
      s.sane)

  pub enqueue-broadcast-sound : (set : Settings) (b : NewBroadcast) (now : ℕ) → SoundModel (enqueue_broadcast_of m set b now).model
  enqueue-broadcast-sound set b now =
      let v : Broadcast = new_broadcast m set b now in
      let m' : Model = with_broadcasts (drawn m) (insert_by broadcast_id v m.broadcasts) in
      admitting-sound (late now || attempt_late b.schedule) (bro.no_copies b.schedule) (leb broadcast_room (length m.broadcasts)) m'
      (λ e l f.
      sound-by (ids-drawn s m' refl l (λ i. omega (arith, insert-fewer broadcast_entry i v m.broadcasts))) s.unicasts s.unrouted s.held
      (kept-insert broadcast_id v (leb-false broadcast_room (length m.broadcasts) f) s.broadcasts) s.waiting
      (all_insert Sane broadcast_id v (sane-admitted m.next b.frame b.waiter b.priority b.schedule now set.handoff_timeout e) m.broadcasts s.sane))

  -- ---- the radio

  lend-unicast : (i : ℕ) → Good (lend_unicast m i)
  lend-unicast i = turned-unicast (has_id unicast_entry i) uni.lend_turn lend_same

  lend-broadcast : (i : ℕ) → Good (lend_broadcast m i)
  lend-broadcast i = turned-broadcast (has_id broadcast_entry i) bro.dequeue_turn same-dequeue sane-dequeue

  pub dequeue-sound : (now : ℕ) → SoundModel (dequeue_of m now).model
  dequeue-sound now = either Good (late now) s (go (unis.best_of now m.unicasts) (bro.best_of now m.broadcasts))
    where
      go : (a : Option (ℕ × Priority)) (b : Option (ℕ × ℕ)) → Good (lend_best m a b)
      go None None = s
      go None (Some (j, q)) = lend-broadcast j
      go (Some (i, p)) None = lend-unicast i
      go (Some (i, p)) (Some (j, q)) = either Good (unicast_first i (rank_of p) j q) (lend-unicast i) (lend-broadcast j)

  pub transmitted-sound : (from : Lender) (id frame : ℕ) (x : TxResult) (now delay : ℕ) → SoundModel (transmitted_of m from id frame x now delay).model
  transmitted-sound from id frame x now delay = either Good (late now) s (go from)
    where
      go : (l : Lender) → Good (report_in m l id frame x now delay)
      go FromUnicasts =
          unless-sound (unis.report_bar frame (first_of (has_id unicast_entry id) m.unicasts)) _
          (turned-unicast (has_id unicast_entry id) (uni.report_turn x now delay) (report-same x now delay))
      go FromBroadcasts =
          unless-sound (bro.report_bar frame (lookup broadcast_id id m.broadcasts)) _
          (turned-broadcast (has_id broadcast_entry id) (bro.report_turn x now delay) (same-report x now delay) (λ b z. sane-report b z x now delay))

  -- ---- devices

  pub poll-sound : (eui : Option ℕ) (nwk : Option ℕ) (now : ℕ) → SoundModel (poll_of m eui nwk now).model
  poll-sound eui nwk now = either Good (late now) s (turned-unicast (uni.awaits eui nwk now) uni.poll_turn poll-same)

  pub ack-sound : (k : AckKey) → SoundModel (ack_of m k).model
  ack-sound k = turned-unicast (uni.keyed k) uni.ack_turn ack-same

  pub drop-sound : (eui : Option ℕ) (nwk : ℕ) → SoundModel (drop_of m eui nwk).model
  drop-sound eui nwk = on-unicasts (shrinks-each unicast_entry s.unicasts (uni.drop_turn eui nwk) (drop-same eui nwk))

  pub delivered-sound : (k : QuorumKey) → SoundModel (delivered_of m k).model
  delivered-sound k = turned-broadcast (bro.keyed k) bro.delivered_turn same-delivered sane-delivered

  -- ---- routes

  pub retry-sound : (d : ℕ) → SoundModel (retry_of m d).model
  retry-sound d = go (unr.retry_of d m.unrouted m.held)
    where
      go : (r : Retry) → Good (retry_by m d r)
      go NotHeld = s
      go Declined = s
      go Granted =
          on-unrouted same-unrouted (spent-kept d s.held)
          (all_map (Waits m.held) (Waits (unr.spent_by Granted d m.held)) (λ u h. spent-held d u.destination m.held ∙ h) m.unrouted s.waiting)

  pub fail-sound : (d : ℕ) → SoundModel (fail_of m d).model
  fail-sound d =
      let hs : List Destination = remove_by destination_address d m.held in
      on-unrouted (shrinks-each unrouted_entry s.unrouted (unr.sweep_turn (Bound d)) (sweep-same (Bound d))) (kept-remove destination_address d s.held)
      (all-each (Waits m.held) (Waits hs) (unr.sweep_turn (Bound d))
      (λ u h. either-by (λ (t : Turn Unrouted). All (Waits hs) (kept t)) (unr.goes_to d u) (λ e. tt) (λ e. (held-without d m.held u e h, tt)))
      m.unrouted s.waiting)

  module _ (now : ℕ) where
    lapsed-shrinks : Shrinks unrouted_entry unrouted_room m.unrouted (lapsed m now)
    lapsed-shrinks = shrinks-each unrouted_entry s.unrouted (unr.sweep_turn (Lapsed now)) (sweep-same (Lapsed now))

    lapsed-waits : All (Waits m.held) (lapsed m now)
    lapsed-waits =
        all-each (Waits m.held) (Waits m.held) (unr.sweep_turn (Lapsed now))
        (λ u h. either (λ (t : Turn Unrouted). All (Waits m.held) (kept t)) (unr.chosen (Lapsed now) u) tt (h, tt)) m.unrouted s.waiting

  routing-sound : (set : Settings) (d now : ℕ) (rs : List Resolved) → count reached rs ≤ unicast_room - length m.unicasts → Good (routing m set d now rs)
  routing-sound set d now rs l =
      let ts : List Unrouted = only (unr.goes_to d) (lapsed m now) in
      let others : Unrouted → Bool = λ u. not (unr.goes_to d u) in
      let hs : List Destination = remove_by destination_address d m.held in
      let m' : Model = (routing m set d now rs).model in
      sound-by
      (ids-fewer s m' refl
      (λ i.
      omega (
        arith,
        entering-fewer set now i ts rs m.unicasts,
        only-count (has_id unrouted_entry i) (unr.goes_to d) (lapsed m now),
        (lapsed-shrinks now).fewer i,
      )))
      (record {
        rising = entering-rising set now ts rs m.unicasts s.unicasts.rising;
        within = omega (arith, entering-length set now ts rs m.unicasts, s.unicasts.within);
      })
      (kept-only unrouted_id others (lapsed-shrinks now).kept) (kept-remove destination_address d s.held) s.broadcasts
      (all-only (Waits m.held) (Waits hs) others (λ u e. held-without d m.held u (not-true (unr.goes_to d u) e)) (lapsed m now) (lapsed-waits now))
      s.sane

  pub route-sound : (set : Settings) (d now n : ℕ) (rs : List Resolved) → SoundModel (route_of m set d now n rs).model
  route-sound set d now n rs =
      let free : ℕ = unicast_room - length m.unicasts in
      either Good (late now) s
      (either Good (matched m d now n rs)
      (either-by Good (ltb free (count reached (take n rs))) (λ e. s)
      (λ e. routing-sound set d now (take n rs) (ltb-false free (count reached (take n rs)) e)))
      s)

  -- ---- cancel

  pub cancel-sound : (id : ℕ) → SoundModel (cancel_of m id).model
  cancel-sound id =
      either Good (any_of (has_id unicast_entry id) m.unicasts)
      (unless-sound (unis.cancel_bar (first_of (has_id unicast_entry id) m.unicasts)) _
      (turned-unicast (has_id unicast_entry id) uni.cancel_turn cancel-same))
      (either Good (any_of (has_id unrouted_entry id) m.unrouted)
      (on-unrouted (shrinks-first unrouted_entry s.unrouted unr.cancel_turn (λ u. tt) (has_id unrouted_entry id)) s.held
      (all_first (Waits m.held) (has_id unrouted_entry id) unr.cancel_turn (λ u h. tt) m.unrouted s.waiting))
      (unless-sound (cast_bar id m.unicasts (lookup broadcast_id id m.broadcasts)) _
      (shrunk (shrinks-each unicast_entry s.unicasts (uni.copy_turn id) (copy-same id)) same-unrouted
      (shrinks-first broadcast_entry s.broadcasts bro.cancel_turn same-cancel (has_id broadcast_entry id)) s.held s.waiting
      (all_first Sane (has_id broadcast_entry id) bro.cancel_turn (λ b z. tt) m.broadcasts s.sane))))

  -- ---- time, and the end

  pub tick-sound : (now : ℕ) → SoundModel (tick_of m now).model
  tick-sound now =
      either Good (late now) s
      (shrunk (shrinks-each unicast_entry s.unicasts (uni.tick_turn now) (tick-same now)) (lapsed-shrinks now)
      (shrinks-each broadcast_entry s.broadcasts (bro.tick_turn now) (same-tick now)) s.held (lapsed-waits now)
      (all-each Sane Sane (bro.tick_turn now) (λ b z. leaves_all (bro.tick_turn now b) (sane-tick b z now)) m.broadcasts s.sane))

  pub abandon-sound : SoundModel (emptied m)
  abandon-sound = fresh-sound m.next s.last

  -- ---- any call

  pub step-sound : (c : Call) → SoundModel (step_of m c).model
  step-sound (EnqueueUnicast set u now) = enqueue-unicast-sound set u now
  step-sound (EnqueueCopy set broadcast u now) = enqueue-copy-sound set broadcast u now
  step-sound (EnqueueUnrouted set u now) = enqueue-unrouted-sound set u now
  step-sound (EnqueueBroadcast set b now) = enqueue-broadcast-sound set b now
  step-sound (Dequeue now) = dequeue-sound now
  step-sound (Transmitted from id frame x now delay) = transmitted-sound from id frame x now delay
  step-sound (Poll eui nwk now) = poll-sound eui nwk now
  step-sound (AckReceived k) = ack-sound k
  step-sound (RetryDiscovery d) = retry-sound d
  step-sound (FailUnrouted d) = fail-sound d
  step-sound (RouteUnicasts set d now n rs) = route-sound set d now n rs
  step-sound (Delivered k) = delivered-sound k
  step-sound (DropIndirect eui nwk) = drop-sound eui nwk
  step-sound (Cancel id) = cancel-sound id
  step-sound (Tick now) = tick-sound now
  step-sound Abandon = abandon-sound
  step-sound NextWake = s
  step-sound Destinations = s
  step-sound AwaitingQuorum = s
  step-sound (PollAddresses es ns) = s
  step-sound (HasUnrouted d) = s
  step-sound (HasAwaiting a) = s

pub after-sound : {m : Model} → SoundModel m → (cs : List Call) → SoundModel (after m cs)
after-sound s [] = s
after-sound {m = m} s (c ∷ cs) = after-sound {m = (step_of m c).model} (step-sound s c) cs

pub reached-sound : (first : ℕ) → first ≤ no_id → (cs : List Call) → SoundModel (after (fresh_of first) cs)
reached-sound first l cs = after-sound (fresh-sound first l) cs
