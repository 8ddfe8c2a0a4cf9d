-- A dequeue takes the best of both tables, and nothing exactly when none is there: specs/Claims. Assumes that ids rise.
use Rattle.std.specs.Prelude.{Option, None, Some}
use Prim.Native.Nat.{ℕ, suc, ◌≤◌, ◌<◌}
use native.Mathlib.Omega.{arith}
use mathlib.Core.Path.{◌≡◌, refl, sym, ap, ◌∙◌, subst}
use mathlib.Core.Bool.{Bool, true, false}
use mathlib.Core.List.{List, [], ◌∷◌}
use mathlib.Core.Logic.{◌⊎◌, inl, inr, ⊎_elim}
use lib.Dec.{ltb, eqb}
use borrow.Author.Tests.{le-ltb, ltb-true, ltb-false, eqb-true, eqb-false, eq-eqb}
use Rattle.records.specs.Pick.{pick}
use Rattle.records.specs.Limits.{last_time}
use Rattle.records.specs.Priorities.{rank_of}
use Rattle.records.specs.Records.{unicast_id, broadcast_id, unicast_entry, broadcast_entry}
use Rattle.records.specs.declared.Priority.{Priority}
use Rattle.records.proofs.Cases.{either-by, never}
use Rattle.rows.specs.Lists.{All, Rising, lookup}
use Rattle.rows.specs.Moves.{at_first, has_id}
use Rattle.sending.specs.Rules as uni
use Rattle.sending.specs.Lists as unis
use Rattle.sending.specs.Claims as unic
use Rattle.sending.proofs.Claims as unip
use Rattle.casting.specs.Rules as bro
use Rattle.casting.specs.Claims as broc
use Rattle.casting.proofs.Bests as brop
use Rattle.model.specs.Types.{Unicast, Broadcast, Answer, Transmit, NothingQueued, InFlight}
use Rattle.model.specs.Model.{Model, Effect, with_unicasts, with_broadcasts, answers}
use Rattle.model.specs.Calls.{flight_of, cast_of, lend_unicast, lend_broadcast, unicast_first, lend_best, dequeue_of}
use Rattle.model.specs.Sound.{SoundModel}
use Rattle.model.specs.Claims.{NoneWaits, Behind, AllBehind, GoesOut, unicast_goes, broadcast_goes, DequeueIsBest, NothingExactly}
use Rattle.model.proofs.Looks.{all_map, first-lookup, lookup-all, lookup_key, lookup-further}

behind : (i p j q k r : ℕ) → Behind i p j q → Behind j q k r → Behind i p k r
behind i p j q k r a b =
    ⊎_elim
    (λ (x : q < p). ⊎_elim (λ (y : r < q). inl (omega arith)) (λ (y : (r ≡ q) × (j ≤ k)). inl (omega (arith, y.0))) b)
    (λ (x : (q ≡ p) × (i ≤ j)).
    ⊎_elim (λ (y : r < q). inl (omega (arith, x.0))) (λ (y : (r ≡ q) × (j ≤ k)). inr (y.0 ∙ x.0, omega (arith, x.1, y.1))) b)
    a

-- the test between the two bests says which is behind the other
unicast-first : (i p j q : ℕ) → unicast_first i p j q ≡ true → Behind i p j q
unicast-first i p j q e = go (eqb p q) refl e
  where
    go : (b : Bool) → eqb p q ≡ b → pick b (ltb i j) (ltb q p) ≡ true → Behind i p j q
    go true f e = inr (sym (eqb-true p q f), omega (arith, ltb-true i j e))
    go false f e = inl (ltb-true q p e)

broadcast-first : (i p j q : ℕ) → unicast_first i p j q ≡ false → Behind j q i p
broadcast-first i p j q e = go (eqb p q) refl e
  where
    go : (b : Bool) → eqb p q ≡ b → pick b (ltb i j) (ltb q p) ≡ false → Behind j q i p
    go true f e = inr (eqb-true p q f, ltb-false i j e)
    go false f e = inl (omega (arith, ltb-false q p e, eqb-false p q f))

-- what is behind the worse best is behind the better, and what is not ready need not be
all-behind : {A : Type 0} (key rank : A → ℕ) (ready : A → Bool) (i p j q : ℕ) → Behind i p j q → (xs : List A)
    → All (λ (x : A). ready x ≡ true → Behind j q (key x) (rank x)) xs → All (λ (x : A). ready x ≡ true → Behind i p (key x) (rank x)) xs
all-behind key rank ready i p j q b xs a = all_map (λ x f e. behind i p j q (key x) (rank x) b (f e)) xs a

none-ready : {A : Type 0} (ready : A → Bool) (P : A → Type 0) (xs : List A) → All (λ (x : A). ready x ≡ false) xs → All (λ (x : A). ready x ≡ true → P x) xs
none-ready ready P xs a = all_map (λ x f e. never (sym f ∙ e)) xs a

-- the unicast that tops its table is found under its id
record Found (now : ℕ) (us : List Unicast) (i : ℕ) (p : Priority) : Type 0 where
  the : Unicast
  there : lookup unicast_id i us ≡ Some the
  queued : uni.ready now the ≡ true
  ranks : the.priority ≡ p

found : (now lo : ℕ) (us : List Unicast) (i : ℕ) (p : Priority) → Rising unicast_id lo us
    → unic.Any (λ (u : Unicast). (uni.ready now u ≡ true) × ((u.id ≡ i) × (u.priority ≡ p))) us → Found now us i p
found now lo [] i p r s = absurd s
found now lo (u ∷ us) i p r s =
    ⊎_elim
    (λ (h : (uni.ready now u ≡ true) × ((u.id ≡ i) × (u.priority ≡ p))). record { the = u; there = rw (eq-eqb u.id i h.1.0); queued = h.0; ranks = h.1.1 })
    (λ h.
    let f = found now (suc u.id) us i p r.1 h in
    record { the = f.the; there = lookup-further unicast_id i u us r.1 f.there; queued = f.queued; ranks = f.ranks })
    s

module _ (m : Model) (now : ℕ) (s : SoundModel m) where
  abbrev UnicastOut : Effect → Type 0
  UnicastOut e = GoesOut m.unicasts unicast_id (λ u. rank_of u.priority) (uni.ready now) (unicast_goes m) now m e

  abbrev BroadcastOut : Effect → Type 0
  BroadcastOut e = GoesOut m.broadcasts broadcast_id (λ b. rank_of b.priority) (bro.ready now) (broadcast_goes m) now m e

  unicast-out : (i : ℕ) (p : Priority) → unic.Tops now m.unicasts i p → AllBehind now m i (rank_of p) → UnicastOut (lend_unicast m i)
  unicast-out i p t a =
      let f = found now 0 m.unicasts i p s.unicasts.rising t.is in
      let u : Unicast = f.the in
      let e : u.id ≡ i = lookup_key unicast_id i m.unicasts f.there in
      record {
        the = u;
        there = subst (λ (k : ℕ). lookup unicast_id k m.unicasts ≡ Some u) (sym e) f.there;
        queued = f.queued;
        first = rw (e, f.ranks) a;
        lends = ap (λ (o : Option Unicast). answers (with_unicasts m (at_first (has_id unicast_entry i) uni.lend_turn m.unicasts)) (flight_of i (unis.loan_by i m.unicasts o)))
            (first-lookup unicast_id i m.unicasts ∙ f.there)
            ∙ rw e;
      }

  broadcast-out : (j q : ℕ) → broc.Tops now m.broadcasts j q → AllBehind now m j q → BroadcastOut (lend_broadcast m j)
  broadcast-out j q t a =
      let e : t.the.id ≡ j = lookup_key broadcast_id j m.broadcasts t.there in
      record {
        the = t.the;
        there = subst (λ (k : ℕ). lookup broadcast_id k m.broadcasts ≡ Some t.the) (sym e) t.there;
        queued = t.queued;
        first = rw (e, t.ranks) a;
        lends = ap (λ (o : Option Broadcast). answers (with_broadcasts m (at_first (has_id broadcast_entry j) bro.dequeue_turn m.broadcasts)) (cast_of j (bro.lent_of o))) t.there ∙ rw e;
      }

  abbrev Takes : Effect → Type 0
  Takes e = ((e ≡ answers m NothingQueued) × NoneWaits now m) ⊎ (UnicastOut e ⊎ BroadcastOut e)

  takes : (x : Option (ℕ × Priority)) (y : Option (ℕ × ℕ)) → unic.IsBest now m.unicasts x → broc.Says now m.broadcasts y → Takes (lend_best m x y)
  takes None None a b = inl (refl, (a, b))
  takes None (Some (j, q)) a t = inr (inr (broadcast-out j q t (none-ready (uni.ready now) _ m.unicasts a, t.first)))
  takes (Some (i, p)) None t b = inr (inl (unicast-out i p t (t.tops, none-ready (bro.ready now) _ m.broadcasts b)))
  takes (Some (i, p)) (Some (j, q)) t b =
      either-by Takes (unicast_first i (rank_of p) j q)
      (λ e.
      inr (inl
      (unicast-out i p t
      (t.tops, all-behind broadcast_id (λ v. rank_of v.priority) (bro.ready now) i (rank_of p) j q (unicast-first i (rank_of p) j q e) m.broadcasts b.first))))
      (λ e.
      inr (inr
      (broadcast-out j q b
      (all-behind unicast_id (λ v. rank_of v.priority) (uni.ready now) j q i (rank_of p) (broadcast-first i (rank_of p) j q e) m.unicasts t.tops, b.first))))

in-time : (m : Model) (now : ℕ) → now ≤ last_time → dequeue_of m now ≡ lend_best m (unis.best_of now m.unicasts) (bro.best_of now m.broadcasts)
in-time m now h = rw (le-ltb last_time now h)

pub dequeue-is-best : DequeueIsBest
dequeue-is-best m now s h =
    rw (in-time m now h)
    (takes m now s (unis.best_of now m.unicasts) (bro.best_of now m.broadcasts) (unip.best-is-best now 0 m.unicasts s.unicasts.rising)
    (brop.best-is-best now 0 m.broadcasts s.broadcasts.rising))

pub nothing-exactly : NothingExactly
nothing-exactly m now s h = (
  (λ e. ⊎_elim (λ a. a.1) (⊎_elim (λ o. absurd (goes e (ap said o.lends))) (λ o. absurd (goes e (ap said o.lends)))) (dequeue-is-best m now s h)),
  (λ n.
      ⊎_elim (λ a. ap said a.0)
      (⊎_elim
      (λ o. never (sym (lookup-all unicast_id o.the.id (λ u. uni.ready now u ≡ false) m.unicasts n.0 o.there).1 ∙ o.queued))
      (λ o. never (sym (lookup-all broadcast_id o.the.id (λ b. bro.ready now b ≡ false) m.broadcasts n.1 o.there).1 ∙ o.queued)))
      (dequeue-is-best m now s h)),
)
  where
    said : Effect → Answer
    said e = e.answer

    goes : {a : Answer} {i f : ℕ} {t : Transmit} → a ≡ NothingQueued → a ≡ InFlight i f t → ⊥
    goes e g = let z : ◌≡◌ {A = ℕ} 0 1 = cc in omega arith
