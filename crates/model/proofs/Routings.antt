-- What an accepted route and an accepted cancel do: specs/Claims. Assumes nothing.
use Rattle.std.specs.Prelude.{Option, None, Some, Ok, Err}
use Prim.Native.Nat.{ℕ, suc, ◌+◌, ◌-◌, ◌≤◌, ◌<◌}
use native.Mathlib.Omega.{arith}
use mathlib.Core.Path.{◌≡◌, refl, sym, ap, ap₂, ◌∙◌, subst}
use mathlib.Core.Bool.{Bool, true, false, not, ◌||◌}
use mathlib.Core.List.Memᴰ
use mathlib.Core.List.{List, [], ◌∷◌, ◌++◌, Memᴰ}
use lib.ListN.{length, take}
use lib.Seq.{length-take-le}
use lib.Dec.{ltb, leb, eqb}
use borrow.Author.Tests.{not-true, eqb-true, leb-true, leb-false, lt-ltb, le-ltb}
use Rattle.records.specs.Pick.{pick, bit}
use Rattle.records.specs.Limits.{unicast_room}
use Rattle.records.specs.Records.{unicast_id, unrouted_id, broadcast_id, destination_address, unicast_entry, unrouted_entry, broadcast_entry}
use Rattle.records.specs.declared.Entry.{Entry}
use Rattle.records.proofs.Cases.{either, either-by, both}
use Rattle.rows.specs.Lists.{All, Rising, lookup, insert_by, remove_by}
use Rattle.rows.specs.Moves.{kept, told, each, at_first, any_of, count, each_told, id_of, has_id}
use Rattle.rows.specs.declared.Turn.{Turn}
use Rattle.rows.specs.declared.Turn.TheVariants.{Keeps}
use Rattle.rows.proofs.Promises.{rising-lower, each-rising, lookup-each, lookup-first-same, lookup-insert-same, lookup-insert-other, lookup-remove-same, told-found, after}
use Rattle.sending.specs.Rules as uni
use Rattle.sending.specs.Lists as unis
use Rattle.sending.proofs.Turns.{copy-same}
use Rattle.unrouted.specs.Rules as unr
use Rattle.unrouted.proofs.Exact.{sweep-same}
use Rattle.casting.specs.Rules as bro
use Rattle.model.specs.Types.{Unicast, Unrouted, Broadcast, Settings, Action, Lapsed, Resolved, Refusal, TimeTooLate, ResultsMismatch, NoPlace, InTheRadio, Denied, Accepted}
use Rattle.model.specs.Model.{Model, Effect, denied}
use Rattle.model.specs.Calls.{late, matched, unless, only, reached, routed, entering, failing, lapsed, routing, turn_unicast, cancel_unrouted, cast_bar, cancel_broadcast, cancel_of}
use Rattle.model.specs.Sound.{SoundModel}
use Rattle.model.specs.Claims.{is_there, to_route, Each2, Met, RouteDone, RouteMeets, CancelLeavesNone, CastCancelled, CancelTakesCopies}
use Rattle.model.proofs.Looks.{all_map, first-lookup, any-lookup, none-not}

denied-not : {A : Type 0} {x : Refusal} → Denied x ≡ Accepted → A
denied-not e = let z : ◌≡◌ {A = ℕ} 0 1 = cc in absurd (omega arith)

-- ---- the records with a test

module _ {A : Type 0} where
  only-all : (q : A → Bool) (xs : List A) → All (λ (x : A). q x ≡ true) (only q xs)
  only-all q [] = tt
  only-all q (x ∷ xs) =
      let ih : All (λ (y : A). q y ≡ true) (only q xs) = only-all q xs in
      either-by (All (λ (y : A). q y ≡ true)) (q x) (λ e. (e, ih)) (λ e. ih)

  only-rising : (key : A → ℕ) (q : A → Bool) (lo : ℕ) (xs : List A) → Rising key lo xs → Rising key lo (only q xs)
  only-rising key q lo [] r = tt
  only-rising key q lo (x ∷ xs) r =
      let ih : Rising key (suc (key x)) (only q xs) = only-rising key q (suc (key x)) xs r.1 in
      either (Rising key lo) (q x) (r.0, ih) (rising-lower key (suc (key x)) lo (only q xs) (omega (arith, r.0)) ih)

  only-not : (q : A → Bool) (xs : List A) → All (λ (x : A). q x ≡ false) (only (λ (x : A). not (q x)) xs)
  only-not q xs = all_map (λ x h. not-true (q x) h) (only (λ (x : A). not (q x)) xs) (only-all (λ (x : A). not (q x)) xs)

-- ---- route

each2-map : {A B : Type 0} {P Q : A → B → Type 0} → ((x : A) (y : B) → P x y → Q x y) → (xs : List A) (ys : List B) → Each2 P xs ys → Each2 Q xs ys
each2-map f [] ys a = tt
each2-map f (x ∷ xs) [] a = a
each2-map f (x ∷ xs) (y ∷ ys) a = (f x y a.0, each2-map f xs ys a.1)

-- an id below theirs is none of theirs
rising-other : (k lo : ℕ) (ts : List Unrouted) (rs : List Resolved) → k < lo → Rising unrouted_id lo ts → length ts ≤ length rs → Each2 (λ u r. reached r ≡ true → u.id ≡ k → ⊥) ts rs
rising-other k lo [] rs h r l = tt
rising-other k lo (u ∷ ts) [] h r l = absurd (omega arith)
rising-other k lo (u ∷ ts) (x ∷ rs) h r l = ((λ t e. omega (arith, r.0)), rising-other k (suc u.id) ts rs (omega (arith, r.0)) r.1 (omega arith))

module _ (s : Settings) (now : ℕ) where
  -- an id that is no success's finds what it found
  enter-other : (k : ℕ) (ts : List Unrouted) (rs : List Resolved) (us : List Unicast) → Each2 (λ u r. reached r ≡ true → u.id ≡ k → ⊥) ts rs
      → lookup unicast_id k (entering s now ts rs us) ≡ lookup unicast_id k us
  enter-other k [] rs us a = refl
  enter-other k (u ∷ ts) [] us a = refl
  enter-other k (u ∷ ts) (Ok (hop, b) ∷ rs) us a =
      enter-other k ts rs (insert_by unicast_id (routed s now u hop b) us) a.1 ∙ lookup-insert-other unicast_id k (routed s now u hop b) us (a.0 refl)
  enter-other k (u ∷ ts) (Err c ∷ rs) us a = enter-other k ts rs us a.1

  -- more actions
  met-more : (us : List Unicast) {told more : List Action} → ((x : Action) → Memᴰ x told → Memᴰ x more) → (u : Unrouted) (r : Resolved) → Met s now us told u r → Met s now us more u r
  met-more us f u (Ok (hop, a)) m = m
  met-more us f u (Err c) m = f _ m

  meets : (lo : ℕ) (ts : List Unrouted) (rs : List Resolved) (us : List Unicast) → Rising unrouted_id lo ts → length ts ≤ length rs
      → Each2 (Met s now (entering s now ts rs us) (failing ts rs)) ts rs
  meets lo [] rs us r l = tt
  meets lo (u ∷ ts) [] us r l = absurd (omega arith)
  meets lo (u ∷ ts) (Ok (hop, a) ∷ rs) us r l = (
    enter-other u.id ts rs (insert_by unicast_id (routed s now u hop a) us) (rising-other u.id (suc u.id) ts rs (omega arith) r.1 (omega arith))
        ∙ lookup-insert-same unicast_id (routed s now u hop a) us,
    meets (suc u.id) ts rs (insert_by unicast_id (routed s now u hop a) us) r.1 (omega arith),
  )
  meets lo (u ∷ ts) (Err c ∷ rs) us r l = (
    Memᴰ.head refl,
    each2-map (met-more (entering s now ts rs us) (λ x m. Memᴰ.tail m)) ts rs (meets (suc u.id) ts rs us r.1 (omega arith)),
  )

-- as many are left to route as are counted before the tick
pub left-count : (now d : ℕ) (us : List Unrouted) → count (unr.left_to now d) us ≡ length (only (unr.goes_to d) (each (unr.sweep_turn (Lapsed now)) us))
left-count now d [] = refl
left-count now d (u ∷ us) = go (leb u.deadline now) refl (unr.goes_to d u) refl (left-count now d us)
  where
    go : (x : Bool) → leb u.deadline now ≡ x → (y : Bool) → unr.goes_to d u ≡ y
        → count (unr.left_to now d) us ≡ length (only (unr.goes_to d) (each (unr.sweep_turn (Lapsed now)) us))
        → count (unr.left_to now d) (u ∷ us) ≡ length (only (unr.goes_to d) (each (unr.sweep_turn (Lapsed now)) (u ∷ us)))
    go true e true f ih = rw (e, f, le-ltb now u.deadline (leb-true u.deadline now e)) (omega arith)
    go true e false f ih = rw (e, f) (omega arith)
    go false e true f ih = rw (e, f, lt-ltb now u.deadline (leb-false u.deadline now e)) (omega arith)
    go false e false f ih = rw (e, f) (omega arith)

-- an accepted route was barred by nothing
route-accepted : (m : Model) (x y z : Bool) (e : Effect)
    → (pick x (denied m TimeTooLate) (pick y (pick z (denied m NoPlace) e) (denied m ResultsMismatch))).answer ≡ Accepted
    → (y ≡ true) × (pick x (denied m TimeTooLate) (pick y (pick z (denied m NoPlace) e) (denied m ResultsMismatch)) ≡ e)
route-accepted m true y z e a = denied-not a
route-accepted m false true true e a = denied-not a
route-accepted m false true false e a = (refl, refl)
route-accepted m false false z e a = denied-not a

pub route-meets : RouteMeets
route-meets m s d now n rs k a =
    let ts : List Unrouted = to_route m d now in
    let g = route-accepted m (late now) (matched m d now n rs)
    (ltb (unicast_room - length m.unicasts) (count reached (take n rs))) (routing m s d now (take n rs)) a in
    let h = both (eqb n (count (unr.left_to now d) m.unrouted)) (leb n (length rs)) g.0 in
    let c : length ts ≤ length (take n rs) =
    omega (arith, length-take-le n rs (leb-true n (length rs) h.1), eqb-true n (count (unr.left_to now d) m.unrouted) h.0, left-count now d m.unrouted) in
    let r : Rising unrouted_id 0 ts =
    only-rising unrouted_id (unr.goes_to d) 0 (lapsed m now)
    (each-rising unrouted_entry (unr.sweep_turn (Lapsed now)) (sweep-same (Lapsed now)) 0 m.unrouted k.unrouted.rising) in
    subst (RouteDone m s d now (take n rs)) (sym g.1)
    (record {
      tells = refl;
      met = each2-map
          (met-more s now (entering s now ts (take n rs) m.unicasts) (λ x h. Memᴰ.append_right (each_told unrouted_entry (unr.sweep_turn (Lapsed now)) m.unrouted) h))
          ts (take n rs) (meets s now 0 ts (take n rs) m.unicasts r c);
      others = λ i h. enter-other s now i ts (take n rs) m.unicasts h;
      rest = refl;
      left = only-not (unr.goes_to d) (lapsed m now);
      forgotten = any-lookup destination_address d (remove_by destination_address d m.held)
          ∙ ap is_there (lookup-remove-same destination_address 0 d m.held k.held.rising);
    })

-- ---- cancel

-- a live id is counted
module _ {A : Type 0} (entry : A → Entry) (k : ℕ) where
  counts-there : (xs : List A) {x : A} → lookup (id_of entry) k xs ≡ Some x → 1 ≤ count (has_id entry k) xs
  counts-there [] e = absurd (none-not e)
  counts-there (y ∷ ys) {x} e = go (has_id entry k y) e (counts-there ys)
    where
      go : (b : Bool) → pick b (Some y) (lookup (id_of entry) k ys) ≡ Some x → (lookup (id_of entry) k ys ≡ Some x → 1 ≤ count (has_id entry k) ys) → 1 ≤ bit b + count (has_id entry k) ys
      go true e ih = omega arith
      go false e ih = omega (arith, ih e)

  counts-none : (xs : List A) → count (has_id entry k) xs ≡ 0 → lookup (id_of entry) k xs ≡ None
  counts-none [] e = refl
  counts-none (y ∷ ys) e = go (has_id entry k y) e (counts-none ys)
    where
      go : (b : Bool) → bit b + count (has_id entry k) ys ≡ 0 → (count (has_id entry k) ys ≡ 0 → lookup (id_of entry) k ys ≡ None) → pick b (Some y) (lookup (id_of entry) k ys) ≡ None
      go true e ih = absurd (omega arith)
      go false e ih = ih (omega arith)

-- a turn of every record with the test that settles it
module _ {A : Type 0} (entry : A → Entry) (q : A → Bool) (f : A → Turn A) (gone : (x : A) → kept (f x) ≡ []) where
  abbrev turning : A → Turn A
  turning x = pick (q x) (f x) (Keeps x)

  each-only : (xs : List A) → each turning xs ≡ only (λ (x : A). not (q x)) xs
  each-only [] = refl
  each-only (x ∷ xs) = go (q x) (each-only xs)
    where
      go : (b : Bool) → each turning xs ≡ only (λ (y : A). not (q y)) xs
          → kept (pick b (f x) (Keeps x)) ++ each turning xs ≡ pick (not b) (x ∷ only (λ (y : A). not (q y)) xs) (only (λ (y : A). not (q y)) xs)
      go true ih = rw (gone x) ih
      go false ih = ap (λ (l : List A). x ∷ l) ih

  told-only : (xs : List A) → each_told entry turning xs ≡ each_told entry f (only q xs)
  told-only [] = refl
  told-only (x ∷ xs) = go (q x) (told-only xs)
    where
      go : (b : Bool) → each_told entry turning xs ≡ each_told entry f (only q xs)
          → told (entry x) (pick b (f x) (Keeps x)) ++ each_told entry turning xs ≡ each_told entry f (pick b (x ∷ only q xs) (only q xs))
      go true ih = ap (λ (l : List Action). told (entry x) (f x) ++ l) ih
      go false ih = ih

-- the first with the id goes
first-remove : (id : ℕ) (bs : List Broadcast) → at_first (has_id broadcast_entry id) bro.cancel_turn bs ≡ remove_by broadcast_id id bs
first-remove id [] = refl
first-remove id (b ∷ bs) = ap (λ (l : List Broadcast). pick (eqb b.id id) bs (b ∷ l)) (first-remove id bs)

module _ (m : Model) (id : ℕ) (s : SoundModel m) where
  -- what the call is, by what is looked up
  abbrev ones : Effect
  ones = turn_unicast m (has_id unicast_entry id) uni.cancel_turn

  abbrev found : Option Unicast → Option Unrouted → Option Broadcast → Effect
  found u r b = pick (is_there u) (unless m (unis.cancel_bar u) ones) (pick (is_there r) (cancel_unrouted m id) (unless m (cast_bar id m.unicasts b) (cancel_broadcast m id)))

  finds : cancel_of m id ≡ found (lookup unicast_id id m.unicasts) (lookup unrouted_id id m.unrouted) (lookup broadcast_id id m.broadcasts)
  finds = rw (first-lookup unicast_id id m.unicasts, any-lookup unicast_id id m.unicasts, any-lookup unrouted_id id m.unrouted)

  -- nothing barred an accepted one
  unless-accepted : (b : Bool) (x : Refusal) (e : Effect) → (unless m (pick b (Some x) None) e).answer ≡ Accepted → unless m (pick b (Some x) None) e ≡ e
  unless-accepted true x e a = denied-not a
  unless-accepted false x e a = refl

  abbrev Gone : Effect → Type 0
  Gone e =
      (lookup unicast_id id e.model.unicasts ≡ None)
      × ((lookup unrouted_id id e.model.unrouted ≡ None) × (lookup broadcast_id id e.model.broadcasts ≡ None))

  -- an id that is live in one table is in no other
  leaves : (u : Option Unicast) (r : Option Unrouted) (b : Option Broadcast)
      → lookup unicast_id id m.unicasts ≡ u → lookup unrouted_id id m.unrouted ≡ r → lookup broadcast_id id m.broadcasts ≡ b
      → (found u r b).answer ≡ Accepted → Gone (found u r b)
  leaves (Some u) r b eu er eb a =
      subst Gone (sym (unless-accepted (uni.is_sending u.stage) InTheRadio ones a)) (
        lookup-first-same unicast_entry id uni.cancel_turn (λ v. tt) 0 m.unicasts s.unicasts.rising ∙ ap (after unicast_entry uni.cancel_turn) eu,
        (
          counts-none unrouted_entry id m.unrouted (omega (arith, s.once id, counts-there unicast_entry id m.unicasts eu)),
          counts-none broadcast_entry id m.broadcasts (omega (arith, s.once id, counts-there unicast_entry id m.unicasts eu)),
        ),
      )
  leaves None (Some r) b eu er eb a = (
    eu,
    (
      lookup-first-same unrouted_entry id unr.cancel_turn (λ v. tt) 0 m.unrouted s.unrouted.rising ∙ ap (after unrouted_entry unr.cancel_turn) er,
      counts-none broadcast_entry id m.broadcasts (omega (arith, s.once id, counts-there unrouted_entry id m.unrouted er)),
    ),
  )
  leaves None None None eu er eb a = denied-not a
  leaves None None (Some b) eu er eb a =
      subst Gone (sym (unless-accepted (bro.in_radio b.copy || any_of (uni.sent_copy id) m.unicasts) InTheRadio (cancel_broadcast m id) a)) (
        lookup-each unicast_entry (uni.copy_turn id) (copy-same id) 0 id m.unicasts s.unicasts.rising ∙ ap (after unicast_entry (uni.copy_turn id)) eu,
        (
          er,
          lookup-first-same broadcast_entry id bro.cancel_turn (λ v. tt) 0 m.broadcasts s.broadcasts.rising ∙ ap (after broadcast_entry bro.cancel_turn) eb,
        ),
      )

  -- where a broadcast has the id, an accepted cancel is the broadcast's
  is-cast : (b : Broadcast) → lookup broadcast_id id m.broadcasts ≡ Some b → (cancel_of m id).answer ≡ Accepted → cancel_of m id ≡ cancel_broadcast m id
  is-cast b eb a =
      let l = counts-there broadcast_entry id m.broadcasts eb in
      let eu : lookup unicast_id id m.unicasts ≡ None = counts-none unicast_entry id m.unicasts (omega (arith, s.once id, l)) in
      let er : lookup unrouted_id id m.unrouted ≡ None = counts-none unrouted_entry id m.unrouted (omega (arith, s.once id, l)) in
      let q : cancel_of m id ≡ found None None (Some b) = finds ∙ rw (eu, er, eb) in
      q ∙ unless-accepted (bro.in_radio b.copy || any_of (uni.sent_copy id) m.unicasts) InTheRadio (cancel_broadcast m id) (ap (λ (e : Effect). e.answer) (sym q) ∙ a)

pub cancel-leaves-none : CancelLeavesNone
cancel-leaves-none m id s a =
    subst (Gone m id s) (sym (finds m id s))
    (leaves m id s (lookup unicast_id id m.unicasts) (lookup unrouted_id id m.unrouted) (lookup broadcast_id id m.broadcasts) refl refl refl
    (ap (λ (e : Effect). e.answer) (sym (finds m id s)) ∙ a))

pub cancel-takes-copies : CancelTakesCopies
cancel-takes-copies m id b s eb a =
    let us : List Unicast = m.unicasts in
    let kept-are : each (uni.copy_turn id) us ≡ only (λ (u : Unicast). not (uni.copies id u)) us = each-only unicast_entry (uni.copies id) uni.cancel_turn (λ u. refl) us in
    subst (CastCancelled m id b) (sym (is-cast m id s b eb a))
    (record {
      tells = ap₂ (λ (x y : List Action). x ++ y)
          (told-found broadcast_entry (has_id broadcast_entry id) bro.cancel_turn m.broadcasts b (first-lookup broadcast_id id m.broadcasts ∙ eb))
          (told-only unicast_entry (uni.copies id) uni.cancel_turn (λ u. refl) us);
      unicasts = kept-are;
      broadcasts = first-remove id m.broadcasts;
      copies = subst (All (λ (u : Unicast). uni.copies id u ≡ false)) (sym kept-are) (only-not (uni.copies id) us);
    })
