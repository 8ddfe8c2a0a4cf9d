-- What a chain of iterators over the places 0..n of a held table asks: the first with a test, whether there is one, how many there are, and a fold from
-- the last place down. Over any kind of table. What a caller says of its closure is that it answers the test, at the record of each place. Assumes nothing.
use Rattle.std.proofs.Common.{Option, None, Some, MatchOption}
use Prim.Native.Nat.{ℕ, zero, suc, ◌+◌, ◌-◌, ◌≤◌, ◌<◌}
use native.Mathlib.Numerals.{add-one}
use native.Mathlib.Nat.{zero-add}
use native.Mathlib.Omega.{arith}
use mathlib.Core.Path.{◌≡◌, refl, sym, ap, subst, ◌∙◌}
use mathlib.Core.Bool.{Bool, true, false, cond, ◌||◌}
use mathlib.Core.List.{List, [], ◌∷◌, map}
use lib.ListN.{length, drop, get_or}
use Rattle.std.specs.declared.ops.Range.{Range}
use Rattle.std.specs.declared.iter.Rev.{Rev}
use Rattle.std.specs.Bool.{⊤}
use Rattle.std.specs.Fn.{Called, CalledAt}
use Rattle.std.specs.Iterator.{YieldsThen, Drains}
use Rattle.std.specs.Iterator.Adapters.{rev_source, rev_steps}
use Rattle.std.specs.List.{range_with_len, list_any, filter, FoldsTo}
use Rattle.std.specs.List as std
use Rattle.std.proofs.iter.Yields.{nat_range_steps}
use Rattle.std.proofs.iter.runs.Sources.{nat_range_steps_back}
use Rattle.std.proofs.lemmas.Iterator.{YieldsList, YieldsList-from_range, first_from_Range}
use Rattle.std.proofs.lemmas.Iterator.Consumers.{YieldsList-from_shown, fold_from_yields_List}
use Rattle.std.proofs.lemmas.Iterator.Search.{any_from_yields_List}
use denote.Param.Members.{Mut}
use denote.Ref.{Bor}
use Rattle.std.proofs.lemmas.List.FromFn.{fill_by_all}
use Rattle.records.specs.Pick.{pick, bit}
use Rattle.rows.specs.Lists.{fold}
use Rattle.rows.specs.Tables.{Table, rows_of, live, Held}
use Rattle.rows.specs.Moves.{first_at, place_from, any_of, count}
use Rattle.rows.proofs.Promises.{held-length, held_at, scan-first, scan-on, scan-here, scan-end, fold_start, fold-turn, fold_end}

-- the numbers from a on, n of them, the last first
abbrev pub falling : ℕ → ℕ → List ℕ
falling a zero = []
falling a (suc n) = (a + n) ∷ falling a n

fallen : (a n b m x : ℕ) → n ≡ suc m → x ≡ a + m → b ≡ a → falling a n ≡ x ∷ falling b m
fallen a n b m x e f g = rw (e, f, g)

yields_falling : (s : Rev (Range ℕ)) → YieldsList (rev_steps nat_range_steps_back) (λ x. x) s (falling (rev_source s).start ((rev_source s).end - (rev_source s).start))
yields_falling =
    YieldsList-from_shown (rev_steps nat_range_steps_back) (λ x. x) (λ s. falling (rev_source s).start ((rev_source s).end - (rev_source s).start))
    (λ s t p. ap (λ n. length (falling (rev_source s).start n)) p.1.0)
    (λ s x t p. fallen _ _ _ _ x (omega (arith, p.0, p.1.0, p.1.2)) (omega (arith, p.0, p.1.0, p.1.1, p.1.2)) p.0)

-- they are what `(a..b).rev()` yields
pub YieldsList-from_rev_range : {s : Rev (Range ℕ)} (a b n : ℕ) → rev_source s ≡ record { start = a; end = b } → b - a ≡ n
    → YieldsList (rev_steps nat_range_steps_back) (λ x. x) s (falling a n)
YieldsList-from_rev_range {s} a b n e f =
    let g : falling (rev_source s).start ((rev_source s).end - (rev_source s).start) ≡ falling a n = ap (λ r. falling r.start (r.end - r.start)) e ∙ ap (falling a) f in
    subst (λ ks. YieldsList (rev_steps nat_range_steps_back) (λ x. x) s ks) g (yields_falling s)

module _ {A : Type 0} (q : A → Bool) where
  any-map : (g : ℕ → A) (ks : List ℕ) → list_any (λ k. q (g k)) ks ≡ any_of q (map g ks)
  any-map g [] = refl
  any-map g (k ∷ ks) = elim (q (g k)) as (λ b. (b || list_any (λ k. q (g k)) ks) ≡ pick b true (any_of q (map g ks))) [ true ↦ refl | false ↦ any-map g ks ]

  count-map : (g : ℕ → A) (ks : List ℕ) → length (filter (λ k. q (g k)) ks) ≡ count q (map g ks)
  count-map g [] = refl
  count-map g (k ∷ ks) =
      let rest : List ℕ = filter (λ k. q (g k)) ks in
      elim (q (g k)) as (λ b. length (cond b (k ∷ rest) rest) ≡ bit b + count q (map g ks)) [
        | true ↦ omega (arith, count-map g ks)
        | false ↦ omega (arith, count-map g ks)
      ]

module _ {A : Type 0} {t : Table A} {ws : List ℕ} {n : ℕ} (h : Held t ws n) where
  abbrev row : ℕ → A
  row i = get_or (rows_of t ws) i t.blank

  live-made : live t ws n ≡ map row (range_with_len 0 n)
  live-made = fill_by_all row (live t ws n) n t.blank (held-length h) (λ k l. held_at h k t.blank l)

  -- a scan has come to place k: every place before it was found without the test
  come : (q : A → Bool) (k : ℕ) → k ≤ n → ((j : ℕ) → 0 ≤ j → j < k → q (row j) ≡ false) → place_from q k (drop k (live t ws n)) ≡ first_at q (live t ws n)
  come q zero l b = scan-first q (live t ws n)
  come q (suc k) l b =
      ap (λ (j : ℕ). place_from q j (drop j (live t ws n))) (sym (add-one k))
      ∙ scan-on h q k (come q k (omega arith) (λ j z m. b j z (omega arith))) (omega arith) (b k (omega arith) (omega arith))

  -- what `find` answers
  pub place-found : (q : A → Bool) (i : ℕ) → i < n → q (get_or (rows_of t ws) i t.blank) ≡ true
      → ((k : ℕ) → 0 ≤ k → k < i → q (get_or (rows_of t ws) k t.blank) ≡ false) → first_at q (live t ws n) ≡ Some i
  place-found q i l e b = sym (scan-here h q i (come q i (omega arith) b) l e)

  pub place-missed : (q : A → Bool) → ((k : ℕ) → 0 ≤ k → k < n → q (get_or (rows_of t ws) k t.blank) ≡ false) → first_at q (live t ws n) ≡ None
  place-missed q b = sym (scan-end h q n (come q n (omega arith) b) (omega arith))

  -- what `any` answers, and `filter` with `count`
  pub any-place : (q : A → Bool) → list_any (λ k. q (get_or (rows_of t ws) k t.blank)) (range_with_len 0 n) ≡ any_of q (live t ws n)
  any-place q = any-map q row (range_with_len 0 n) ∙ ap (any_of q) (sym live-made)

  pub count-places : (q : A → Bool) → length (filter (λ k. q (get_or (rows_of t ws) k t.blank)) (range_with_len 0 n)) ≡ count q (live t ws n)
  count-places q = count-map q row (range_with_len 0 n) ∙ ap (count q) (sym live-made)

  -- what `rev` with `fold` answers: the fold has come down to place m
  pub fold-places : {B : Type 0} (f : A → B → B) (z : B) → std.fold (λ b k. f (get_or (rows_of t ws) k t.blank) b) z (falling 0 n) ≡ fold f z (live t ws n)
  fold-places {B} f z = down n z (omega arith) (fold_start h f z)
    where
      down : (m : ℕ) (b : B) → m ≤ n → b ≡ fold f z (drop m (live t ws n)) → std.fold (λ c k. f (row k) c) b (falling 0 m) ≡ fold f z (live t ws n)
      down zero b l e = fold_end h f z 0 b (omega arith) e
      down (suc m) b l e =
          let k : suc m - 1 ≡ m = omega arith in
          down m (f (row (0 + m)) b) (omega arith)
          (ap (λ (j : ℕ). f (row j) b) (zero-add m ∙ sym k) ∙ fold-turn h f z (suc m) b (omega arith) l e ∙ ap (λ (j : ℕ). fold f z (drop j (live t ws n))) k)

  -- ---- the chains themselves, by what the closure answers at a place

  -- the places, from the first up
  abbrev pub places : Range ℕ
  places = record { start = 0; end = n }

  -- `(0..n).find(..)`
  pub find-is : (q : A → Bool) (u : Range ℕ) {F : Type 0} {g : Mut F (Bor ℕ × Unit {0}) Bool} {fn : F} {r : Option ℕ}
      → (xs : List ℕ) × (j : F) × YieldsThen nat_range_steps places xs r u × FoldsTo (λ p x k. CalledAt g p x false k) fn xs j × MatchOption r ⊤ (λ x. (k : F) × CalledAt g j x true k)
      → ((x : ℕ) (b : Bool) (k : F) → CalledAt g fn x b k → (k ≡ fn) × (b ≡ q (row x))) → r ≡ first_at q (live t ws n)
  find-is q u {r = r} ran call =
      go r (first_from_Range places u _ r (λ k. q (row k) ≡ true) (λ k. q (row k) ≡ false) ran (λ x k c. sym (call x true k c).1) (λ x k c. let p = call x false k c in (p.0, sym p.1)))
    where
      go : (o : Option ℕ) → MatchOption o ((k : ℕ) → 0 ≤ k → k < n → q (row k) ≡ false) (λ i. (0 ≤ i) × (i < n) × (q (row i) ≡ true) × ((k : ℕ) → 0 ≤ k → k < i → q (row k) ≡ false)) → o ≡ first_at q (live t ws n)
      go None b = sym (place-missed q b)
      go (Some i) p = sym (place-found q i p.1 p.2 p.3)

  -- `(0..n).any(..)`
  pub any-is : (q : A → Bool) {F : Type 0} {g : Mut F (ℕ × Unit {0}) Bool} {fn : F} {u : Range ℕ} {r : Bool}
      → (xs : List ℕ) × (o : Option ℕ) × (j : F) × YieldsThen nat_range_steps places xs o u × FoldsTo (λ p x k. Called g p (x, tt) false k) fn xs j × MatchOption o (r ≡ false) (λ x. (r ≡ true) × ((k : F) × Called g j (x, tt) true k))
      → ((x : ℕ) (b : Bool) (k : F) → Called g fn (x, tt) b k → (k ≡ fn) × (b ≡ q (row x))) → r ≡ any_of q (live t ws n)
  any-is q ran call = any_from_yields_List (λ k. q (row k)) _ _ _ ran (YieldsList-from_range 0 n n refl (omega arith)) call ∙ any-place q

  -- `(0..n).rev().fold(..)`
  pub fold-is : {B : Type 0} (f : A → B → B) (z : B) {F : Type 0} {g : Mut F (B × (ℕ × Unit {0})) B} {fn : F} {s : Rev (Range ℕ)} {r : B} → rev_source s ≡ places
      → (xs : List ℕ) × (j : F) × Drains (rev_steps nat_range_steps_back) s xs × FoldsTo {P = F × B} (λ p x k. Called g p.0 (p.1, (x, tt)) k.1 k.0) (fn, z) xs (j, r)
      → ((a : B) (x : ℕ) (b : B) (k : F) → Called g fn (a, (x, tt)) b k → (k ≡ fn) × (b ≡ f (row x) a)) → r ≡ fold f z (live t ws n)
  fold-is f z e ran call = fold_from_yields_List _ (λ b k. f (row k) b) z _ ran (YieldsList-from_rev_range 0 n n e (omega arith)) call ∙ fold-places f z
