-- What the chains over the address map answer. Assumes nothing.
use Prim.Native.Nat.{ℕ, zero, suc, ◌+◌, ◌<◌}
use native.Mathlib.Omega.{arith}
use mathlib.Core.Path.{◌≡◌, refl, ap, ◌∙◌}
use mathlib.Core.Bool.{Bool, true, false, cond}
use mathlib.Core.List.{List, [], ◌∷◌}
use lib.Dec.{ltb, eqb}
use lib.ListN.{length, get_or}
use Rattle.std.proofs.Common.{Option, Some, None, option_map, MatchOption, IsSomeAnd, Iter}
use Rattle.std.specs.declared.iter.Zip.{Zip}
use Rattle.std.specs.Bool.{⊤}
use Rattle.std.specs.Fn.{CalledAt}
use Rattle.std.specs.Iterator.{YieldsThen}
use Rattle.std.specs.Iterator.Adapters.{zip_first, zip_second}
use Rattle.std.specs.List.{find, zip, FoldsTo, IsAllAdjacentAnswer}
use Rattle.std.specs.Slice.Iter.{iter_rest}
use Rattle.std.proofs.iter.Yields.{fronts}
use Rattle.std.proofs.lemmas.Iterator.{YieldsList-from_slice, YieldsList-from_zip, zips}
use Rattle.std.proofs.lemmas.Iterator.Search.{find_from_yields_List}
use denote.Param.Members.{Mut}
use denote.Ref.{Bor}
use Rattle.records.specs.Pick.{pick}
use Rattle.sending.specs.Members.{rises_after, rises_all, mapped_in}

-- each number is below the next
pub rises-is : (xs : List ℕ) (r : Bool) → IsAllAdjacentAnswer (λ x y b. b ≡ ltb x y) xs r → r ≡ rises_all xs
rises-is [] true h = refl
rises-is [] false h = absurd (omega (arith, h.1))
rises-is (x ∷ xs) true h = all x xs h
  where
    go : (b : Bool) {r : Bool} → true ≡ b → true ≡ r → true ≡ pick b r false
    go true e f = f
    go false e f = e

    all : (x : ℕ) (xs : List ℕ) → ((k d : ℕ) → k + 1 < length (x ∷ xs) → true ≡ ltb (get_or (x ∷ xs) k d) (get_or (x ∷ xs) (k + 1) d)) → true ≡ rises_after x xs
    all x [] h = refl
    all x (y ∷ ys) h =
        go (ltb x y) (h 0 0 (omega arith))
        (all y ys (λ k d l. let e : suc k + 1 ≡ suc (k + 1) = omega arith in h (suc k) d (omega arith) ∙ ap (λ (j : ℕ). ltb (get_or (y ∷ ys) k d) (get_or (x ∷ y ∷ ys) j d)) e))
rises-is (x ∷ xs) false h = some x xs h.0 h.1 h.2
  where
    go : (b : Bool) {r : Bool} → false ≡ r → false ≡ pick b r false
    go true e = e
    go false e = refl

    some : (x : ℕ) (xs : List ℕ) (k : ℕ) → k + 1 < length (x ∷ xs) → ((d : ℕ) → false ≡ ltb (get_or (x ∷ xs) k d) (get_or (x ∷ xs) (k + 1) d)) → false ≡ rises_after x xs
    some x [] k l f = absurd (omega arith)
    some x (y ∷ ys) zero l f = ap (λ (b : Bool). pick b (rises_after y ys) false) (f 0)
    some x (y ∷ ys) (suc k) l f =
        go (ltb x y) (some y ys k (omega arith) (λ d. let e : suc k + 1 ≡ suc (k + 1) = omega arith in f d ∙ ap (λ (j : ℕ). ltb (get_or (y ∷ ys) k d) (get_or (x ∷ y ∷ ys) j d)) e))

-- the short address of the pair that was found
abbrev pub short_of : Option (ℕ × ℕ) → Option ℕ
short_of None = None
short_of (Some p) = Some p.1

abbrev pub read : Bor ℕ × Bor ℕ → ℕ × ℕ
read p = (p.0.now, p.1.now)

-- what `map` makes of the pair
pub short-is : {P : Bor ℕ × Bor ℕ → ℕ → Type 0} (r : Option (Bor ℕ × Bor ℕ)) (s : Option ℕ) → MatchOption r (s ≡ None) (λ x. IsSomeAnd s (P x)) → ((x : Bor ℕ × Bor ℕ) (y : ℕ) → P x y → y ≡ x.1.now)
    → s ≡ short_of (option_map read r)
short-is None s e call = e
short-is (Some x) None e call = absurd e
short-is (Some x) (Some y) e call = ap Some (call x y e)

-- a chain that looks for x among the pairs
pub mapped-is : {F : Type 0} {g : Mut F (Bor (Bor ℕ × Bor ℕ) × Unit {0}) Bool} {fn : F} {s : Zip (Iter ℕ) (Iter ℕ)} (r : Option (Bor ℕ × Bor ℕ)) (u : Zip (Iter ℕ) (Iter ℕ)) (x : ℕ) (es ns : List ℕ)
    → iter_rest (zip_first s) ≡ es → iter_rest (zip_second s) ≡ ns
    → (xs : List (Bor ℕ × Bor ℕ)) × (j : F) × YieldsThen (zips fronts fronts) s xs r u × FoldsTo (λ p y k. CalledAt g p y false k) fn xs j × MatchOption r ⊤ (λ y. (k : F) × CalledAt g j y true k)
    → ((y : Bor ℕ × Bor ℕ) (b : Bool) (k : F) → CalledAt g fn y b k → (k ≡ fn) × (b ≡ eqb y.0.now x)) → short_of (option_map read r) ≡ mapped_in x es ns
mapped-is r u x es ns e f ran call =
    ap short_of (find_from_yields_List (λ p. eqb p.0 x) u _ _ ran (YieldsList-from_zip (YieldsList-from_slice es e) (YieldsList-from_slice ns f)) call) ∙ same es ns
  where
    same : (es ns : List ℕ) → short_of (find (λ p. eqb p.0 x) (zip es ns)) ≡ mapped_in x es ns
    same [] ns = refl
    same (e ∷ es) [] = refl
    same (e ∷ es) (n ∷ ns) = go (eqb e x) _ _ (same es ns)
      where
        go : (b : Bool) (o : Option (ℕ × ℕ)) (r : Option ℕ) → short_of o ≡ r → short_of (cond b (Some (e, n)) o) ≡ pick b (Some n) r
        go true o r k = refl
        go false o r k = k
