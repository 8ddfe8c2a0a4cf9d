-- What taking a route does, send by send: of the sends to a destination the first goes, then the next, until none is left. Assumes nothing.
use Rattle.std.specs.Prelude.{Option, None, Some, Ok, Err}
use Prim.Native.Nat.{ℕ, ◌+◌, ◌-◌, ◌≤◌, ◌<◌}
use native.Mathlib.Omega.{arith}
use mathlib.Core.Path.{◌≡◌, refl, sym, ap, ap₂, ◌∙◌}
use mathlib.Core.Bool.{Bool, true, false, not, cond}
use mathlib.Core.List.{List, [], ◌∷◌, ◌++◌, append-nil, append_assoc}
use lib.ListN.{length, take, drop, get_or, drop_of_length-le}
use Rattle.std.specs.List.{count_by}
use Rattle.std.proofs.lemmas.List.Recursion.{is_count_by}
use borrow.Author.Tests.{eq-eqb, le-leb, lt-ltb, le-ltb}
use Rattle.records.specs.Pick.{pick, bit}
use Rattle.records.specs.Records.{unrouted_id, unrouted_entry, destination_address}
use Rattle.rows.specs.Lists.{remove_by}
use Rattle.rows.specs.Tables.{live, words_for, Held, Holds}
use Rattle.rows.specs.Moves.{first_of, count}
use Rattle.rows.proofs.Promises.{live-cons, held-length, held-holds, holds-count}
use Rattle.tables.specs.Layouts.{unicast_table, unrouted_table, destination_table}
use Rattle.actions.specs.Told.{Told}
use Rattle.actions.specs.Calls.{Swept}
use Rattle.actions.proofs.Lines.{told-append}
use Rattle.unrouted.specs.Rules.{sweep_turn, goes_to, left_to, drop_first, took_of}
use Rattle.unrouted.specs.Calls.{Taken}
use Rattle.unrouted.proofs.Turns.{bit_le}
use Rattle.model.specs.Model.{denied, lent_model, SoundTables, Does}
use Rattle.model.specs.Calls.{late, only, reached, entering, failing, routing, route_of}
use Rattle.model.specs.Sound.{Kept}
use Rattle.model.proofs.Fews.{sweep-one}
use Rattle.model.proofs.Kepts.{kept-only}
use Rattle.model.proofs.Routings.{left-count}
use Rattle.model.proofs.Routes.{entering-length}
use Rattle.doing.specs.Types.{NoPlace, Accepted, Lapsed, Settings, Unicast, Unrouted, Resolved, Action, Counts}
use Rattle.admitting.specs.declared.routes.Entered.{Entered}
use Rattle.admitting.specs.declared.routes.Gone.{Gone}
use Rattle.admitting.specs.Routes.{RoutedOne, RoutedAll, Routable}

-- ---- counting

pub count-by : {A : Type 0} (p : A → Bool) (xs : List A) → count p xs ≡ count_by p xs
count-by p xs = is_count_by (count p) p refl (λ x ys. one (p x) (count p ys)) xs
  where
    one : (b : Bool) (n : ℕ) → bit b + n ≡ cond b (1 + n) n
    one true n = refl
    one false n = omega arith

pub bit-low : {a : ℕ} (b : Bool) → a ≡ bit b → a ≤ 1
bit-low b e = omega (arith, e, bit_le b)

pub count-le : {A : Type 0} (p : A → Bool) (xs : List A) → count p xs ≤ length xs
count-le p [] = omega arith
count-le p (x ∷ xs) = let ih : count p xs ≤ length xs = count-le p xs in omega (arith, bit_le (p x))

-- ---- the first with a test goes

module _ (q : Unrouted → Bool) where
  abbrev others : Unrouted → Bool
  others u = not (q u)

  pub first-only : (xs : List Unrouted) (u : Unrouted) → first_of q xs ≡ Some u → only q xs ≡ u ∷ only q (drop_first q xs)
  first-only [] u e = let z : ◌≡◌ {A = ℕ} 0 1 = cc in absurd (omega arith)
  first-only (x ∷ xs) u e = go (q x) refl e (first-only xs u)
    where
      go : (b : Bool) → q x ≡ b → pick b (Some x) (first_of q xs) ≡ Some u → (first_of q xs ≡ Some u → only q xs ≡ u ∷ only q (drop_first q xs))
          → pick b (x ∷ only q xs) (only q xs) ≡ u ∷ only q (pick b xs (x ∷ drop_first q xs))
      go true f e ih = let z : x ≡ u = cc in ap (λ (y : Unrouted). y ∷ only q xs) z
      go false f e ih = rw f (ih e)

  pub first-others : (xs : List Unrouted) → only others (drop_first q xs) ≡ only others xs
  first-others [] = refl
  first-others (x ∷ xs) = go (q x) refl (first-others xs)
    where
      go : (b : Bool) → q x ≡ b → only others (drop_first q xs) ≡ only others xs
          → only others (pick b xs (x ∷ drop_first q xs)) ≡ pick (not b) (x ∷ only others xs) (only others xs)
      go true f ih = refl
      go false f ih = rw f (ap (λ (l : List Unrouted). x ∷ l) ih)

  pub none_only : (xs : List Unrouted) → first_of q xs ≡ None → only q xs ≡ []
  none_only [] e = refl
  none_only (x ∷ xs) e = go (q x) e (none_only xs)
    where
      go : (b : Bool) → pick b (Some x) (first_of q xs) ≡ None → (first_of q xs ≡ None → only q xs ≡ []) → pick b (x ∷ only q xs) (only q xs) ≡ []
      go true e ih = let z : ◌≡◌ {A = ℕ} 0 1 = cc in absurd (omega arith)
      go false e ih = ih e

  pub all_others : (xs : List Unrouted) → length (only q xs) ≡ 0 → only others xs ≡ xs
  all_others [] e = refl
  all_others (x ∷ xs) e = go (q x) e (all_others xs)
    where
      go : (b : Bool) → length (pick b (x ∷ only q xs) (only q xs)) ≡ 0 → (length (only q xs) ≡ 0 → only others xs ≡ xs)
          → pick (not b) (x ∷ only others xs) (only others xs) ≡ x ∷ xs
      go true e ih = absurd (omega arith)
      go false e ih = ap (λ (l : List Unrouted). x ∷ l) (ih e)

pub took-some : (o : Option Unrouted) (u : Unrouted) → Some u ≡ took_of o → o ≡ Some u
took-some None u e = let z : ◌≡◌ {A = ℕ} 0 1 = cc in absurd (omega arith)
took-some (Some v) u e = cc

pub nothing-none : (o : Option Unrouted) → None ≡ took_of o → o ≡ None
nothing-none None e = refl
nothing-none (Some v) e = let z : ◌≡◌ {A = ℕ} 0 1 = cc in absurd (omega arith)

-- ---- one send has its result, and then the others

entering-one : (s : Settings) (now : ℕ) (u : Unrouted) (ts : List Unrouted) (x : Resolved) (rs : List Resolved) (us : List Unicast)
    → entering s now ts rs (entering s now (u ∷ []) (x ∷ []) us) ≡ entering s now (u ∷ ts) (x ∷ rs) us
entering-one s now u ts (Ok (hop, a)) rs us = refl
entering-one s now u ts (Err c) rs us = refl

failing-one : (u : Unrouted) (ts : List Unrouted) (x : Resolved) (rs : List Resolved) → failing (u ∷ ts) (x ∷ rs) ≡ failing (u ∷ []) (x ∷ []) ++ failing ts rs
failing-one u ts (Ok (hop, a)) rs = refl
failing-one u ts (Err c) rs = refl

failing-few : (u : Unrouted) (x : Resolved) → length (failing (u ∷ []) (x ∷ [])) ≤ 1
failing-few u (Ok (hop, a)) = omega arith
failing-few u (Err c) = omega arith

module _ (s : Settings) (d now : ℕ) (results : List Resolved) (many : ℕ) (ws₀ : List ℕ) (n₀ : ℕ) (vs₀ : List ℕ) (k₀ : ℕ) (buf₀ : List ℕ) (m₀ : ℕ) where
  -- i results are used: what is still to do gives the whole, there is a place for each success that is left, and place to tell the rest
  pub record Routing (ws : List ℕ) (n : ℕ) (vs : List ℕ) (k : ℕ) (buf : List ℕ) (m : ℕ) (i : ℕ) : Type 0 where
    pub unicasts : Held unicast_table ws n
    pub unrouted : Held unrouted_table vs k
    pub left : many ≡ i + length (only (goes_to d) (live unrouted_table vs k))
    pub enters : entering s now (only (goes_to d) (live unrouted_table vs k)) (drop i (take many results)) (live unicast_table ws n)
        ≡ entering s now (only (goes_to d) (live unrouted_table vs₀ k₀)) (take many results) (live unicast_table ws₀ n₀)
    pub stays : only (λ (u : Unrouted). not (goes_to d u)) (live unrouted_table vs k) ≡ only (λ (u : Unrouted). not (goes_to d u)) (live unrouted_table vs₀ k₀)
    pub done : List Action
    pub tells : Told m₀ done buf₀ buf m
    pub rest : done ++ failing (only (goes_to d) (live unrouted_table vs k)) (drop i (take many results))
        ≡ failing (only (goes_to d) (live unrouted_table vs₀ k₀)) (take many results)
    pub free : n + count reached (drop i (take many results)) ≤ 32
    pub space : m + (many - i) ≤ 112

module _ {s : Settings} {d now : ℕ} {results : List Resolved} {many : ℕ} {ws₀ : List ℕ} {n₀ : ℕ} {vs₀ : List ℕ} {k₀ : ℕ} {buf₀ : List ℕ} {m₀ : ℕ} where
  module _ {ws : List ℕ} {n : ℕ} {vs : List ℕ} {k : ℕ} {buf : List ℕ} {m i : ℕ} (r : Routing s d now results many ws₀ n₀ vs₀ k₀ buf₀ m₀ ws n vs k buf m i)
      (there : many ≤ length results) where
    -- the next result
    cons : (x : Resolved) → i < many → drop i (take many results) ≡ get_or results i x ∷ drop (i + 1) (take many results)
    cons x l = live-cons results many i x l there

    pub route-free : (x : Resolved) → i < many → n + bit (reached (get_or results i x)) ≤ 32
    route-free x l =
        let f : n + (bit (reached (get_or results i x)) + count reached (drop (i + 1) (take many results))) ≤ 32 = rw (cons x l) at r.free in
        omega arith

    -- a send is left for each result that is
    pub route-some : {vs' : List ℕ} {y : Option Unrouted} → i < many → Taken d vs k vs' y → y ≡ None → ⊥
    route-some l t e =
        let z : only (goes_to d) (live unrouted_table vs k) ≡ [] = none_only (goes_to d) (live unrouted_table vs k) (nothing-none _ (sym e ∙ t.answer)) in
        omega (arith, r.left, ap length z)

    pub route-more : i < many → 1 ≤ k
    route-more l =
        let kept : Kept unrouted_id k (live unrouted_table vs k) = record { rising = r.unrouted.rising; within = omega (arith, held-length r.unrouted) } in
        omega (arith, r.left, (kept-only unrouted_id (goes_to d) kept).within)

    pub route-turn : {ws' vs' buf' : List ℕ} {y : Option Unrouted} {e : Entered} (u : Unrouted) (x : Resolved) → i < many → Taken d vs k vs' y → y ≡ Some u
        → RoutedOne s now u (get_or results i x) ws n buf m ws' buf' e
        → Routing s d now results many ws₀ n₀ vs₀ k₀ buf₀ m₀ ws' e.sends vs' (k - 1) buf' e.told (i + 1)
    route-turn {ws'} {vs'} {buf'} {y} {e} u x l t f o =
        let q : Unrouted → Bool = goes_to d in
        let v : Resolved = get_or results i x in
        let rs : List Resolved = drop (i + 1) (take many results) in
        let ts : List Unrouted = only q (drop_first q (live unrouted_table vs k)) in
        let table : Holds unrouted_table vs' (k - 1) (drop_first q (live unrouted_table vs k)) = rw f at t.table in
        let chosen : only q (live unrouted_table vs k) ≡ u ∷ ts = first-only q (live unrouted_table vs k) u (took-some _ u (sym f ∙ t.answer)) in
        let next : only q (live unrouted_table vs' (k - 1)) ≡ ts = ap (only q) table.live-is in
        let few : count reached (v ∷ rs) ≡ count reached (drop i (take many results)) = ap (count reached) (sym (cons x l)) in
        let long : e.sends ≡ length (entering s now (u ∷ []) (v ∷ []) (live unicast_table ws n)) = holds-count o.table in
        record {
          unicasts = o.table.held;
          unrouted = table.held;
          left = omega (arith, r.left, ap length chosen, ap length next);
          enters = ap₂ (λ (a : List Unrouted) (b : List Unicast). entering s now a rs b) next o.table.live-is
              ∙ entering-one s now u ts v rs (live unicast_table ws n)
              ∙ ap₂ (λ (a : List Unrouted) (b : List Resolved). entering s now a b (live unicast_table ws n)) (sym chosen) (sym (cons x l)) ∙ r.enters;
          stays = ap (only (λ (w : Unrouted). not (q w))) table.live-is ∙ first-others q (live unrouted_table vs k) ∙ r.stays;
          done = r.done ++ failing (u ∷ []) (v ∷ []);
          tells = told-append r.tells o.tells;
          rest = ap (λ (a : List Unrouted). (r.done ++ failing (u ∷ []) (v ∷ [])) ++ failing a rs) next
              ∙ append_assoc r.done (failing (u ∷ []) (v ∷ [])) (failing ts rs)
              ∙ ap (λ (a : List Action). r.done ++ a) (sym (failing-one u ts v rs))
              ∙ ap₂ (λ (a : List Unrouted) (b : List Resolved). r.done ++ failing a b) (sym chosen) (sym (cons x l)) ∙ r.rest;
          free = omega (arith, r.free, few, long, entering-length s now (u ∷ []) (v ∷ []) (live unicast_table ws n), held-length r.unicasts);
          space = omega (arith, r.space, o.tells.next, failing-few u v);
        }

    -- every send has had its result
    pub route-end : {g : Gone} → many ≤ i → g.unicasts ≡ n → g.unrouted ≡ k → g.told ≡ m
        → RoutedAll s d now (take many results) ws₀ n₀ vs₀ k₀ buf₀ m₀ ws vs buf g
    route-end {g} l p₁ p₂ p₃ =
        let z : length (only (goes_to d) (live unrouted_table vs k)) ≡ 0 = omega (arith, r.left) in
        let none_left : only (goes_to d) (live unrouted_table vs k) ≡ [] = drop_of_length-le (only (goes_to d) (live unrouted_table vs k)) {i = 0} (omega arith) in
        let us : live unicast_table ws n ≡ entering s now (only (goes_to d) (live unrouted_table vs₀ k₀)) (take many results) (live unicast_table ws₀ n₀) =
        ap (λ (a : List Unrouted). entering s now a (drop i (take many results)) (live unicast_table ws n)) (sym none_left) ∙ r.enters in
        let os : live unrouted_table vs k ≡ only (λ (w : Unrouted). not (goes_to d w)) (live unrouted_table vs₀ k₀) =
        sym (all_others (goes_to d) (live unrouted_table vs k) z) ∙ r.stays in
        let acts : r.done ≡ failing (only (goes_to d) (live unrouted_table vs₀ k₀)) (take many results) =
        sym (append-nil r.done) ∙ ap (λ (a : List Unrouted). r.done ++ failing a (drop i (take many results))) (sym none_left) ∙ r.rest in
        record {
          unicasts = rw p₁ (record { is = r.unicasts.words ∙ ap (words_for unicast_table) us; live-is = us; held = r.unicasts });
          unrouted = rw p₂ (record { is = r.unrouted.words ∙ ap (words_for unrouted_table) os; live-is = os; held = r.unrouted });
          tells = rw (p₃, ← acts) r.tells;
        }

-- they are 16 at most
pub left-few : {vs : List ℕ} {k n : ℕ} → Held unrouted_table vs k → (now d : ℕ) → n ≡ count (left_to now d) (live unrouted_table vs k) → n ≤ 16
left-few {vs} {k} h now d e = omega (arith, e, count-le (left_to now d) (live unrouted_table vs k), held-length h, h.within)

-- after the tick there is place for every result, and for what is told
pub routable : {vs vs' buf buf' : List ℕ} {k k' n m us : ℕ} {results : List Resolved} (now d : ℕ) → Held unrouted_table vs k
    → Swept unrouted_table unrouted_entry (sweep_turn (Lapsed now)) vs k buf 0 vs' k' buf' m → n ≡ count (left_to now d) (live unrouted_table vs k)
    → length results ≡ 16 → us + count reached (take n results) ≤ 32 → Routable d (live unrouted_table vs' k') us results n m
routable {vs} {vs'} {buf} {buf'} {k} {k'} {n} now d h t e l f =
    let few : n ≤ 16 = left-few h now d e in
    record {
      many = e ∙ left-count now d (live unrouted_table vs k) ∙ ap (λ (xs : List Unrouted). length (only (goes_to d) xs)) (sym t.table.live-is);
      there = omega arith;
      free = f;
      space = omega (arith, h.within, t.tells.next, sweep-one (Lapsed now) (live unrouted_table vs k), held-length h);
    }

-- ---- a route

module _ {c : Counts} {ws vs ds bs : List ℕ} (s : SoundTables c ws vs ds bs) where
  pub does-route : {o : Settings} {d now : ℕ} {rs : List Resolved} {ws' vs₁ vs' ds' buf buf₁ buf' : List ℕ} {k m h : ℕ} {g : Gone}
      → Swept unrouted_table unrouted_entry (sweep_turn (Lapsed now)) vs c.unrouted buf 0 vs₁ k buf₁ m
      → Holds destination_table ds' h (remove_by destination_address d (live destination_table ds c.held))
      → RoutedAll o d now rs ws c.unicasts vs₁ k buf₁ m ws' vs' buf' g
      → Does (routing (lent_model c ws vs ds bs) o d now rs) buf ws' vs' ds' bs buf'
      (record {
        counts = record { next_id = c.next_id; unicasts = g.unicasts; unrouted = g.unrouted; held = h; broadcasts = c.broadcasts };
        answer = Accepted;
        told = g.told;
      })
  does-route t h a =
      record {
        next = refl;
        unicasts = rw t.table.live-is at a.unicasts;
        unrouted = rw t.table.live-is at a.unrouted;
        held = h;
        broadcasts = held-holds s.broadcasts;
        answer = refl;
        tells = told-append t.tells (rw t.table.live-is at a.tells);
      }

  module _ (o : Settings) (d now n : ℕ) (rs : List Resolved) (e : late now ≡ false)
      (f : n ≡ count (left_to now d) (live unrouted_table vs c.unrouted)) (l : n ≤ length rs) where
    pub route-full : 32 - c.unicasts < count reached (take n rs) → route_of (lent_model c ws vs ds bs) o d now n rs ≡ denied (lent_model c ws vs ds bs) NoPlace
    route-full g = rw (e, eq-eqb n _ f, le-leb n (length rs) l, held-length s.unicasts, lt-ltb (32 - c.unicasts) (count reached (take n rs)) g)

    pub route-goes : count reached (take n rs) ≤ 32 - c.unicasts
        → route_of (lent_model c ws vs ds bs) o d now n rs ≡ routing (lent_model c ws vs ds bs) o d now (take n rs)
    route-goes g = rw (e, eq-eqb n _ f, le-leb n (length rs) l, held-length s.unicasts, le-ltb (32 - c.unicasts) (count reached (take n rs)) g)
