-- Each call is refused exactly as the table of specs/Claims says, and a refused call alters nothing. Assumes nothing.
use Rattle.std.specs.Prelude.{Option, None, Some}
use Prim.Native.Nat.{ℕ, ◌-◌}
use mathlib.Core.Path.{◌≡◌, refl, sym, ap, ◌∙◌, subst}
use mathlib.Core.Bool.{Bool, true, false, not, ◌&&◌, ◌||◌}
use mathlib.Core.List.{List, [], ◌∷◌}
use mathlib.Core.Logic.{inl, inr, ⊎_elim}
use lib.ListN.{length, take}
use lib.Dec.{ltb, eqb}
use Rattle.records.specs.Pick.{pick}
use Rattle.records.specs.Limits.{no_id, unicast_room}
use Rattle.records.specs.Priorities.{rank_of}
use Rattle.records.specs.Records.{unicast_id, unrouted_id, broadcast_id, destination_address, unicast_entry}
use Rattle.records.specs.declared.Refusal.TheVariants.{NotInTheRadio, OtherFrame}
use Rattle.records.proofs.Cases.{either}
use Rattle.rows.specs.Lists.{lookup}
use Rattle.rows.specs.Moves.{any_of, count, has_id}
use Rattle.sending.specs.Rules.{sent_copy}
use Rattle.sending.specs.Members.{map_fits}
use Rattle.sending.specs.Rules as uni
use Rattle.sending.specs.Lists as unis
use Rattle.unrouted.specs.Rules as unr
use Rattle.casting.specs.Rules as bro
use Rattle.model.specs.Types.{Unicast, Unrouted, Destination, Broadcast, TxResult, Lender, FromUnicasts, FromBroadcasts, Declined, Granted, Refusal, TimeTooLate, IdsExhausted, NoCopies, NoPlace, NoSuchSend, InTheRadio, DestinationNotHeld, ResultsMismatch, MapMalformed, Answer, Denied, Accepted, Issued, Replied, NothingQueued, InFlight}
use Rattle.model.specs.Model.{Model, Effect, denied}
use Rattle.model.specs.Calls.{matched, unless, admitting, late, flight_of, cast_of, lend_unicast, lend_broadcast, unicast_first, lend_best, transmitted_of, attempt_late, reached, retry_by, retry_of, cast_bar, cancel_unrouted, cancel_broadcast, turn_unicast, cancel_of}
use Rattle.model.specs.Steps.{Call, Reply, Outcome, acts, asks, step_of}
use Rattle.model.specs.Steps.Call.{EnqueueUnicast, EnqueueCopy, EnqueueUnrouted, EnqueueBroadcast, Dequeue, Transmitted, Poll, AckReceived, RetryDiscovery, FailUnrouted, RouteUnicasts, Delivered, DropIndirect, Cancel, Tick, Abandon, NextWake, Destinations, AwaitingQuorum, PollAddresses, HasUnrouted, HasAwaiting}
use Rattle.model.specs.Steps.Reply.{Says, Wakes, Lists, Keys, Matches, Leaves}
use Rattle.model.proofs.Looks.{first-lookup, any-lookup, some_is, none-not}
use Rattle.model.specs.Claims.{that_has, is_there, unicast_sent, broadcast_sent, unicasts_full, unrouted_full, broadcasts_full, Bar, bars_of, Bars, DeniedExactly, DeniedAltersNothing}
use Rattle.records.specs.declared.Priority.{Priority}

-- ---- the first test that holds

abbrev first_bar : List Bar → Option Refusal
first_bar [] = None
first_bar (b ∷ bs) = pick b.0 (Some b.1) (first_bar bs)

first-bars : (bs : List Bar) (x : Refusal) → first_bar bs ≡ Some x → Bars bs x
first-bars [] x e = absurd (none-not e)
first-bars ((b, y) ∷ bs) x e = go b e (first-bars bs x)
  where
    go : (b : Bool) → pick b (Some y) (first_bar bs) ≡ Some x → (first_bar bs ≡ Some x → Bars bs x) → Bars ((b, y) ∷ bs) x
    go true e f = inl (refl, some_is e)
    go false e f = inr (refl, f e)

bars-first : (bs : List Bar) (x : Refusal) → Bars bs x → first_bar bs ≡ Some x
bars-first [] x a = absurd a
bars-first ((b, y) ∷ bs) x a =
    ⊎_elim
    (λ (p : (b ≡ true) × (y ≡ x)). ap (λ (c : Bool). pick c (Some y) (first_bar bs)) p.0 ∙ ap Some p.1)
    (λ (p : (b ≡ false) × Bars bs x). ap (λ (c : Bool). pick c (Some y) (first_bar bs)) p.0 ∙ bars-first bs x p.1)
    a

-- ---- a refused call alters nothing, and every other is not refused

abbrev denied_in : Answer → Option Refusal
denied_in (Denied x) = Some x
denied_in Accepted = None
denied_in (Issued i) = None
denied_in (Replied b) = None
denied_in NothingQueued = None
denied_in (InFlight i f t) = None

abbrev refusal_in : Reply → Option Refusal
refusal_in (Says a) = denied_in a
refusal_in (Wakes t) = None
refusal_in (Lists l) = None
refusal_in (Keys l) = None
refusal_in (Matches l k) = None
refusal_in (Leaves l) = None

abbrev Goes : Model → Option Refusal → Outcome → Type 0
Goes m None o = refusal_in o.reply ≡ None
Goes m (Some x) o = o ≡ acts (denied m x)

module _ (m : Model) where
  -- one more test before the others
  bar : (b : Bool) (x : Refusal) (o : Option Refusal) (e : Effect) → Goes m o (acts e) → Goes m (pick b (Some x) o) (acts (pick b (denied m x) e))
  bar true x o e g = refl
  bar false x o e g = g

  bar-not : (b : Bool) (x : Refusal) (o : Option Refusal) (e : Effect) → Goes m o (acts e) → Goes m (pick (not b) (Some x) o) (acts (pick b e (denied m x)))
  bar-not true x o e g = g
  bar-not false x o e g = refl

  bar-by : (o : Option Refusal) (e : Effect) → denied_in e.answer ≡ None → Goes m o (acts (unless m o e))
  bar-by None e g = g
  bar-by (Some x) e g = refl

  -- as if the tests were those
  barred : {o p : Option Refusal} (e : Effect) → o ≡ p → denied_in e.answer ≡ None → Goes m o (acts (unless m p e))
  barred {o} {p} e q g = subst (λ (r : Option Refusal). Goes m r (acts (unless m p e))) (sym q) (bar-by p e g)

  admits : (late empty full : Bool) (m' : Model)
      → Goes m (first_bar ((late, TimeTooLate) ∷ (empty, NoCopies) ∷ (eqb m.next no_id, IdsExhausted) ∷ (full, NoPlace) ∷ [])) (acts (admitting m late empty full m'))
  admits late empty full m' =
      bar late TimeTooLate _ _ (bar empty NoCopies _ _ (bar (eqb m.next no_id) IdsExhausted _ _ (bar full NoPlace None _ refl)))

  -- ---- dequeue

  unicast-lends : (i : ℕ) → denied_in (lend_unicast m i).answer ≡ None
  unicast-lends i = go (unis.loan_of i m.unicasts)
    where
      go : (l : Option (ℕ × ℕ × Bool)) → denied_in (flight_of i l) ≡ None
      go None = refl
      go (Some (f, h, p)) = refl

  broadcast-lends : (i : ℕ) → denied_in (lend_broadcast m i).answer ≡ None
  broadcast-lends i = go (bro.lent_of (lookup broadcast_id i m.broadcasts))
    where
      go : (o : Option ℕ) → denied_in (cast_of i o) ≡ None
      go None = refl
      go (Some f) = refl

  lends : (a : Option (ℕ × Priority)) (b : Option (ℕ × ℕ)) → denied_in (lend_best m a b).answer ≡ None
  lends None None = refl
  lends None (Some (j, q)) = broadcast-lends j
  lends (Some (i, p)) None = unicast-lends i
  lends (Some (i, p)) (Some (j, q)) =
      either (λ (e : Effect). denied_in e.answer ≡ None) (unicast_first i (rank_of p) j q) (unicast-lends i) (broadcast-lends j)

  -- ---- reports

  turned : (s f : Bool) → pick (not s) (Some NotInTheRadio) (pick (not f) (Some OtherFrame) None) ≡ pick s (pick f None (Some OtherFrame)) (Some NotInTheRadio)
  turned true true = refl
  turned true false = refl
  turned false f = refl

  abbrev report_bars : {A : Type 0} → (A → Bool) → (A → Bool) → Option A → List Bar
  report_bars s f o = (not (is_there o), NoSuchSend) ∷ (not (that_has s o), NotInTheRadio) ∷ (not (that_has f o), OtherFrame) ∷ []

  unicast-bars : (frame : ℕ) (o : Option Unicast) → first_bar (report_bars unicast_sent (λ u. eqb u.frame frame) o) ≡ unis.report_bar frame o
  unicast-bars frame None = refl
  unicast-bars frame (Some u) = turned (unicast_sent u) (eqb u.frame frame)

  broadcast-bars : (frame : ℕ) (o : Option Broadcast) → first_bar (report_bars broadcast_sent (λ b. eqb b.frame frame) o) ≡ bro.report_bar frame o
  broadcast-bars frame None = refl
  broadcast-bars frame (Some b) = turned (broadcast_sent b) (eqb b.frame frame)

  reports : (from : Lender) (id frame : ℕ) (x : TxResult) (now delay : ℕ) → Goes m (first_bar (bars_of m (Transmitted from id frame x now delay))) (acts (transmitted_of m from id frame x now delay))
  reports FromUnicasts id frame x now delay =
      bar (late now) TimeTooLate _ _
      (barred _ (unicast-bars frame (lookup unicast_id id m.unicasts) ∙ ap (unis.report_bar frame) (sym (first-lookup unicast_id id m.unicasts))) refl)
  reports FromBroadcasts id frame x now delay =
      bar (late now) TimeTooLate _ _ (barred _ (broadcast-bars frame (lookup broadcast_id id m.broadcasts)) refl)

  -- ---- cancel

  cancels : (id : ℕ) → Goes m (first_bar (bars_of m (Cancel id))) (acts (cancel_of m id))
  cancels id =
      rw (first-lookup unicast_id id m.unicasts, any-lookup unicast_id id m.unicasts, any-lookup unrouted_id id m.unrouted)
      (go (lookup unicast_id id m.unicasts) (lookup unrouted_id id m.unrouted) (lookup broadcast_id id m.broadcasts))
    where
      sent : (b : Bool) → pick (b || false) (Some InTheRadio) None ≡ pick b (Some InTheRadio) None
      sent true = refl
      sent false = refl

      go : (u : Option Unicast) (r : Option Unrouted) (b : Option Broadcast)
          → Goes m
          (first_bar
          ((not (is_there u) && (not (is_there r) && not (is_there b)), NoSuchSend)
          ∷ (that_has unicast_sent u || (not (is_there u) && (not (is_there r) && that_has (λ c. broadcast_sent c || any_of (sent_copy id) m.unicasts) b)), InTheRadio) ∷ []))
          (acts
          (pick (is_there u) (unless m (unis.cancel_bar u) (turn_unicast m (has_id unicast_entry id) uni.cancel_turn))
          (pick (is_there r) (cancel_unrouted m id) (unless m (cast_bar id m.unicasts b) (cancel_broadcast m id)))))
      go (Some u) r b = barred (turn_unicast m (has_id unicast_entry id) uni.cancel_turn) (sent (unicast_sent u)) refl
      go None (Some r) b = refl
      go None None None = refl
      go None None (Some b) = bar-by (cast_bar id m.unicasts (Some b)) (cancel_broadcast m id) refl

  -- ---- retry

  retries : (d : ℕ) → Goes m (first_bar (bars_of m (RetryDiscovery d))) (acts (retry_of m d))
  retries d = rw (any-lookup destination_address d m.held) (go (any_of (unr.goes_to d) m.unrouted) (lookup destination_address d m.held))
    where
      granted : (b : Bool) → denied_in (retry_by m d (pick b Granted Declined)).answer ≡ None
      granted true = refl
      granted false = refl

      go : (waits : Bool) (o : Option Destination) → Goes m (pick (not (is_there o)) (Some DestinationNotHeld) None) (acts (retry_by m d (unr.retry_by waits o)))
      go waits None = refl
      go waits (Some h) = granted (waits && ltb 0 h.retries)

  -- ---- the map

  fits : (b : Bool) (xs ys : List ℕ) → Goes m (pick (not b) (Some MapMalformed) None) (asks m (pick b (Matches xs ys) (Says (Denied MapMalformed))))
  fits true xs ys = refl
  fits false xs ys = refl

  goes : (c : Call) → Goes m (first_bar (bars_of m c)) (step_of m c)
  goes (EnqueueUnicast s u now) = admits (late now) false (unicasts_full m) _
  goes (EnqueueCopy s broadcast u now) = admits (late now) false (unicasts_full m) _
  goes (EnqueueUnrouted s u now) = admits (late now) false (unrouted_full m u.destination) _
  goes (EnqueueBroadcast s b now) = admits (late now || attempt_late b.schedule) (bro.no_copies b.schedule) (broadcasts_full m) _
  goes (Dequeue now) = bar (late now) TimeTooLate None _ (lends (unis.best_of now m.unicasts) (bro.best_of now m.broadcasts))
  goes (Transmitted from id frame x now delay) = reports from id frame x now delay
  goes (Poll eui nwk now) = bar (late now) TimeTooLate None _ refl
  goes (AckReceived k) = refl
  goes (RetryDiscovery d) = retries d
  goes (FailUnrouted d) = refl
  goes (RouteUnicasts s d now n rs) =
      bar (late now) TimeTooLate _ _
      (bar-not (matched m d now n rs) ResultsMismatch _ _
      (bar (ltb (unicast_room - length m.unicasts) (count reached (take n rs))) NoPlace None _ refl))
  goes (Delivered k) = refl
  goes (DropIndirect eui nwk) = refl
  goes (Cancel id) = cancels id
  goes (Tick now) = bar (late now) TimeTooLate None _ refl
  goes Abandon = refl
  goes NextWake = refl
  goes Destinations = refl
  goes AwaitingQuorum = refl
  goes (PollAddresses es ns) = fits (map_fits es ns) _ _
  goes (HasUnrouted d) = refl
  goes (HasAwaiting a) = refl

-- ---- the two claims

-- where a refusal is said, the tests gave it, and the outcome is a refused call's
said : (m : Model) (p : Option Refusal) (o : Outcome) (x : Refusal) → Goes m p o → o.reply ≡ Says (Denied x) → (p ≡ Some x) × (o ≡ acts (denied m x))
said m None o x g e = absurd (none-not (sym g ∙ ap refusal_in e))
said m (Some y) o x g e =
    let h : Some y ≡ Some x = ap (λ (q : Outcome). refusal_in q.reply) (sym g) ∙ ap refusal_in e in
    (h, g ∙ ap (λ (w : Refusal). acts (denied m w)) (some_is h))

pub denied-exactly : DeniedExactly
denied-exactly m c x = (
  (λ e. first-bars (bars_of m c) x (said m _ (step_of m c) x (goes m c) e).0),
  (λ b. ap (λ (o : Outcome). o.reply) (subst (λ (p : Option Refusal). Goes m p (step_of m c)) (bars-first (bars_of m c) x b) (goes m c))),
)

pub denied-alters-nothing : DeniedAltersNothing
denied-alters-nothing m c x e =
    let g = (said m (first_bar (bars_of m c)) (step_of m c) x (goes m c) e).1 in
    (ap (λ (o : Outcome). o.model) g, ap (λ (o : Outcome). o.actions) g)
