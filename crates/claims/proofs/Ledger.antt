-- The claims of specs/Ledger.antt: the balance and the ids of each call, added up over a history. Assumes that the first id is a possible one.
use Prim.Native.Nat.{ℕ, zero, suc, ◌+◌, ◌≤◌, ◌<◌}
use native.Mathlib.Omega.{arith}
use mathlib.Core.Path.{◌≡◌, refl, sym, ap, ◌∙◌}
use mathlib.Core.Bool.{Bool, true, false, ◌&&◌}
use mathlib.Core.List.Memᴰ
use mathlib.Core.List.{List, [], ◌∷◌, ◌++◌, map, Memᴰ}
use mathlib.Core.Logic.{◌⊎◌, inl, inr, ⊎_elim}
use lib.ListN.{length}
use lib.Dec.{eqb}
use borrow.Author.Tests.{eqb-true, eq-eqb, ne_eqb}
use Rattle.records.specs.Pick.{bit}
use Rattle.records.specs.Limits.{no_id}
use Rattle.records.specs.Records.{unicast_entry, unrouted_entry, broadcast_entry}
use Rattle.records.specs.declared.Entry.{Entry}
use Rattle.records.proofs.Cases.{lt-or-le, eq-or-ne, both}
use Rattle.rows.specs.Moves.{count}
use Rattle.rows.proofs.Promises.{count-append, count_map}
use Rattle.model.specs.Model.{Model, fresh_of}
use Rattle.model.specs.Sound.{SoundModel}
use Rattle.model.specs.Steps.{Call, Outcome, step_of, after}
use Rattle.model.proofs.Sounds.{fresh-sound, step-sound, after-sound, reached-sound}
use Rattle.claims.specs.Ledger.{issued_by, settled_by, listed_by, live_in, Made, history, past, present, ever_said, ever_issued, ever_settled, ever_listed, AllBalances, ids_from, IssuedInOrder, is, has, IsMeans, places, AllNone, JustOne, EachInOnePlace, NoOtherId, rest, NeverAgain, RestIsRest}
use Rattle.claims.proofs.Balances.{in_all, live-count, lawful}

-- ---- ids_from any sound tables

run-balances : {m : Model} → SoundModel m → (cs : List Call) (p : Entry → Bool)
    → in_all p m + count p (ever_issued (history m cs)) ≡ in_all p (after m cs) + (count p (ever_settled (history m cs)) + count p (ever_listed (history m cs)))
run-balances s [] p = omega arith
run-balances {m} s (c ∷ cs) p =
    let o : Outcome = step_of m c in
    let h : List Made = history o.model cs in
    omega (
      arith,
      (lawful s c).sum p,
      run-balances {m = o.model} (step-sound s c) cs p,
      count-append p (issued_by c o) (ever_issued h),
      count-append p (settled_by o) (ever_settled h),
      count-append p (listed_by o) (ever_listed h),
    )

-- numbers from i on, and then those after them
from_on : (i a b j n : ℕ) → j ≡ i + a → n ≡ a + b → ids_from i a ++ ids_from j b ≡ ids_from i n
from_on i zero b j n e f =
    let x : j ≡ i = omega arith in
    let y : b ≡ n = omega arith in
    ap (λ (k : ℕ). ids_from k b) x ∙ ap (ids_from i) y
from_on i (suc a) b j n e f =
    let y : suc (a + b) ≡ n = omega arith in
    ap (λ (l : List ℕ). i ∷ l) (from_on (suc i) a b j (a + b) (omega arith) refl) ∙ ap (ids_from i) y

length-on : {A : Type 0} (xs ys : List A) → length (xs ++ ys) ≡ length xs + length ys
length-on [] ys = omega arith
length-on (x ∷ xs) ys = omega (arith, length-on xs ys)

-- the ids of some sends
abbrev ids : List Entry → List ℕ
ids es = map (λ (e : Entry). e.id) es

ids-on : (xs ys : List Entry) → ids (xs ++ ys) ≡ ids xs ++ ids ys
ids-on [] ys = refl
ids-on (x ∷ xs) ys = ap (λ (l : List ℕ). x.id ∷ l) (ids-on xs ys)

record Ordered (m : Model) (cs : List Call) : Type 0 where
  pub ids-are : ids (ever_issued (history m cs)) ≡ ids_from m.next (length (ever_issued (history m cs)))
  pub next-is : (after m cs).next ≡ m.next + length (ever_issued (history m cs))
  pub said-are : ever_said (history m cs) ≡ ids (ever_issued (history m cs))

ordered : {m : Model} → SoundModel m → (cs : List Call) → Ordered m cs
ordered s [] = record { ids-are = refl; next-is = omega arith; said-are = refl }
ordered {m} s (c ∷ cs) =
    let o : Outcome = step_of m c in
    let new : List Entry = issued_by c o in
    let more : List Entry = ever_issued (history o.model cs) in
    let l = lawful s c in
    let r = ordered {m = o.model} (step-sound s c) cs in
    record {
      ids-are = ids-on new more
          ∙ (ap (λ (x : List ℕ). x ++ ids more) l.ids
          ∙ (ap (λ (x : List ℕ). ids_from m.next (length new) ++ x) r.ids-are
          ∙ from_on m.next (length new) (length more) o.model.next (length (new ++ more)) l.next (length-on new more)));
      next-is = omega (arith, l.next, r.next-is, length-on new more);
      said-are = ap (λ (x : List ℕ). x ++ ever_said (history o.model cs)) l.said ∙ (ap (λ (x : List ℕ). ids new ++ x) r.said-are ∙ sym (ids-on new more));
    }

-- among numbers from one on, another is there once, or not at all
from-none : (i a n : ℕ) → (i < a) ⊎ (a + n ≤ i) → count (λ (k : ℕ). eqb k i) (ids_from a n) ≡ 0
from-none i a zero h = refl
from-none i a (suc n) h =
    let z : bit (eqb a i) ≡ 0 = ap bit (ne_eqb a i (λ q. ⊎_elim (λ (l : i < a). omega arith) (λ (l : a + suc n ≤ i). omega arith) h)) in
    omega (arith, from-none i (suc a) n (⊎_elim (λ (l : i < a). inl (omega arith)) (λ (l : a + suc n ≤ i). inr (omega arith)) h))

from-once : (i a n : ℕ) → count (λ (k : ℕ). eqb k i) (ids_from a n) ≤ 1
from-once i a zero = omega arith
from-once i a (suc n) =
    ⊎_elim
    (λ (e : a ≡ i). let z : bit (eqb a i) ≡ 1 = ap bit (eq-eqb a i e) in omega (arith, from-none i (suc a) n (inl (omega arith))))
    (λ (e : a ≡ i → ⊥). let z : bit (eqb a i) ≡ 0 = ap bit (ne_eqb a i e) in omega (arith, from-once i (suc a) n))
    (eq-or-ne a i)

module _ {m : Model} (s : SoundModel m) (cs : List Call) (i : ℕ) where
  has-from : count (has i) (ever_issued (history m cs)) ≡ count (λ (k : ℕ). eqb k i) (ids_from m.next (length (ever_issued (history m cs))))
  has-from =
      sym (count_map (λ (k : ℕ). eqb k i) (λ (e : Entry). e.id) (ever_issued (history m cs))) ∙ ap (count (λ (k : ℕ). eqb k i)) (ordered s cs).ids-are

  -- no id is issued twice, none below the next, and none from what is then the next on
  issued-once : count (has i) (ever_issued (history m cs)) ≤ 1
  issued-once = omega (arith, has-from, from-once i m.next (length (ever_issued (history m cs))))

  issued-none : (i < m.next) ⊎ ((after m cs).next ≤ i) → count (has i) (ever_issued (history m cs)) ≡ 0
  issued-none h =
      has-from
      ∙ from-none i m.next (length (ever_issued (history m cs)))
      (⊎_elim (λ (l : i < m.next). inl l) (λ (l : (after m cs).next ≤ i). inr (omega (arith, (ordered s cs).next-is))) h)

-- ---- from fresh ones

pub all-balances : AllBalances
all-balances first cs p l = omega (arith, run-balances (fresh-sound first l) cs p, live-count p (present first cs))

pub issued-in-order : IssuedInOrder
issued-in-order first cs l =
    let r = ordered (fresh-sound first l) cs in
    record { ids = r.ids-are; next = r.next-is; last = (reached-sound first l cs).last; said = r.said-are }

-- ---- in one place

abbrev total : List ℕ → ℕ
total [] = 0
total (n ∷ ns) = n + total ns

none_at_all : (ns : List ℕ) → total ns ≡ 0 → AllNone ns
none_at_all [] e = tt
none_at_all (n ∷ ns) e = (omega arith, none_at_all ns (omega arith))

just-one : (ns : List ℕ) → total ns ≡ 1 → JustOne ns
just-one [] e = absurd (omega arith)
just-one (n ∷ ns) e =
    ⊎_elim (λ (l : 0 < n). inl (omega arith, none_at_all ns (omega arith))) (λ (l : n ≤ 0). inr (omega arith, just-one ns (omega arith))) (lt-or-le 0 n)

-- the places together have what was issued
places-total : (first : ℕ) (cs : List Call) (p : Entry → Bool) → first ≤ no_id → total (places first cs p) ≡ count p (ever_issued (past first cs))
places-total first cs p l =
    let m : Model = present first cs in
    omega (
      arith,
      run-balances (fresh-sound first l) cs p,
      count_map p unicast_entry m.unicasts,
      count_map p unrouted_entry m.unrouted,
      count_map p broadcast_entry m.broadcasts,
    )

is-self : (e : Entry) → is e e ≡ true
is-self e = rw (eq-eqb e.id e.id refl, eq-eqb e.waiter e.waiter refl, eq-eqb e.frame e.frame refl)

pub is-means : IsMeans
is-means e x = (there, (λ q. ap (is e) q ∙ is-self e))
  where
    there : is e x ≡ true → x ≡ e
    there t =
        let a = both (eqb x.id e.id) (eqb x.waiter e.waiter && eqb x.frame e.frame) t in
        let b = both (eqb x.waiter e.waiter) (eqb x.frame e.frame) a.1 in
        let Id : ℕ → Entry = λ n. record { id = n; waiter = x.waiter; frame = x.frame } in
        let Waiter : ℕ → Entry = λ n. record { id = e.id; waiter = n; frame = x.frame } in
        let Frame : ℕ → Entry = λ n. record { id = e.id; waiter = e.waiter; frame = n } in
        ap Id (eqb-true x.id e.id a.0) ∙ (ap Waiter (eqb-true x.waiter e.waiter b.0) ∙ ap Frame (eqb-true x.frame e.frame b.1))

is-there : (e : Entry) (xs : List Entry) → Memᴰ e xs → 0 < count (is e) xs
is-there e [] h = absurd (Memᴰ.not-nil h)
is-there e (x ∷ xs) h =
    ⊎_elim
    (λ (q : e ≡ x). let z : bit (is e x) ≡ 1 = ap bit (ap (is e) (sym q) ∙ is-self e) in omega arith)
    (λ (k : Memᴰ e xs). omega (arith, is-there e xs k))
    (Memᴰ.cases_cons h)

is-has : (e : Entry) (xs : List Entry) → count (is e) xs ≤ count (has e.id) xs
is-has e [] = omega arith
is-has e (x ∷ xs) = omega (arith, is-has e xs, fewer (eqb x.id e.id) (eqb x.waiter e.waiter && eqb x.frame e.frame))
  where
    fewer : (a b : Bool) → bit (a && b) ≤ bit a
    fewer true true = omega arith
    fewer true false = omega arith
    fewer false b = omega arith

pub each-in-one-place : EachInOnePlace
each-in-one-place first cs e l h =
    let es : List Entry = ever_issued (past first cs) in
    let there : 0 < count (is e) es = is-there e es h in
    let fewer : count (is e) es ≤ count (has e.id) es = is-has e es in
    let once : count (has e.id) es ≤ 1 = issued-once (fresh-sound first l) cs e.id in
    record {
      itself = just-one (places first cs (is e)) (omega (arith, places-total first cs (is e) l));
      its-id = just-one (places first cs (has e.id)) (omega (arith, places-total first cs (has e.id) l));
    }

pub no-other-id : NoOtherId
no-other-id first cs i l h =
    let z : count (has i) (ever_issued (past first cs)) ≡ 0 = issued-none (fresh-sound first l) cs i h in
    (z, none_at_all (places first cs (has i)) (omega (arith, places-total first cs (has i) l)))

-- ---- never again

after_on : (m : Model) (cs ds : List Call) → after m (cs ++ ds) ≡ after (after m cs) ds
after_on m [] ds = refl
after_on m (c ∷ cs) ds = after_on (step_of m c).model cs ds

pub never-again : NeverAgain
never-again first cs ds i l h =
    let s : SoundModel (fresh_of first) = fresh-sound first l in
    let t : SoundModel (present first cs) = after-sound s cs in
    let a = run-balances s cs (has i) in
    let b = run-balances t ds (has i) in
    let once : count (has i) (ever_issued (past first cs)) ≤ 1 = issued-once s cs i in
    let new : count (has i) (ever_issued (rest first cs ds)) ≡ 0 =
    ⊎_elim
    (λ (k : i < (present first cs).next). issued-none t ds i (inl k))
    (λ (k : (present first cs).next ≤ i). absurd (omega (arith, issued-none s cs i (inr k))))
    (lt-or-le i (present first cs).next) in
    record {
      once = omega arith;
      live = ap (λ (m : Model). count (has i) (live_in m)) (after_on (fresh_of first) cs ds) ∙ omega (arith, live-count (has i) (after (present first cs) ds));
      issued = new;
      settled = omega arith;
      listed = omega arith;
    }

pub rest-is-rest : RestIsRest
rest-is-rest first cs ds = go (fresh_of first) cs
  where
    go : (m : Model) (cs : List Call) → history m (cs ++ ds) ≡ history m cs ++ history (after m cs) ds
    go m [] = refl
    go m (c ∷ cs) = ap (λ (h : List Made). (c, step_of m c) ∷ h) (go (step_of m c).model cs)
