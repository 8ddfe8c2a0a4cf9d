-- The table of body lengths, and its rule, proved once.
use Prim.Native.Nat.{ℕ, ◌≤◌, ◌<◌}
use mathlib.Core.Path.{◌≡◌, refl, ap, ◌∙◌}
use mathlib.Core.Bool.{Bool, true, false}
use mathlib.Core.List.{List, [], ◌∷◌}
use native.Mathlib.Omega.{arith}
use lib.Dec.{T, eqb, ltb, eqb→eq}
use lib.ListN.{get_or}
use borrow.Author.Tests.{ne_eqb, ltb-true}
use Rattle.framing.specs.Kinds.{length_in, bodies, body_of}
use Rattle.framing.proofs.Table.{at, both}

abbrev under : ℕ → List (ℕ × ℕ) → Bool
under n [] = true
under n (p ∷ ps) = both (ltb p.0 n) (under n ps)

both-fst : (a b : Bool) → T (both a b) → a ≡ true
both-fst true b t = refl
both-fst false b t = absurd t

both-snd : (a b : Bool) → T (both a b) → T b
both-snd true b t = t
both-snd false b t = absurd t

past : (n k : ℕ) (ps : List (ℕ × ℕ)) → n ≤ k → T (under n ps) → length_in ps k ≡ 255
past n k [] h t = refl
past n k (p ∷ ps) h t =
    let l : p.0 < n = ltb-true p.0 n (both-fst (ltb p.0 n) (under n ps) t) in
    rw (ne_eqb k p.0 (λ e. omega arith)) (past n k ps h (both-snd (ltb p.0 n) (under n ps) t))

-- no kind from 142 on
pub past-table : (k : ℕ) → 142 ≤ k → body_of k ≡ 255
unfolding body_of
past-table k h = past 142 k bodies h tt

abbrev pub right : ℕ → ℕ → Bool
right k x = eqb x (body_of k)

abbrev pub table : List ℕ
table = 255 ∷ 10 ∷ 43 ∷ 47 ∷ 34 ∷ 34 ∷ 8 ∷ 24 ∷ 20 ∷ 10 ∷ 2 ∷ 2 ∷ 235 ∷ 3 ∷ 11 ∷ 4 ∷ 8 ∷ 0 ∷ 0 ∷ 10 ∷ 0 ∷ 2 ∷ 9 ∷ 255 ∷ 255 ∷ 255 ∷ 255 ∷ 255 ∷ 255 ∷ 255 ∷ 255 ∷ 255 ∷ 255 ∷ 255 ∷ 255 ∷ 255 ∷ 255 ∷ 255 ∷ 255 ∷ 255 ∷ 255 ∷ 255 ∷ 255 ∷ 255 ∷ 255 ∷ 255 ∷ 255 ∷ 255 ∷ 255 ∷ 255 ∷ 255 ∷ 255 ∷ 255 ∷ 255 ∷ 255 ∷ 255 ∷ 255 ∷ 255 ∷ 255 ∷ 255 ∷ 255 ∷ 255 ∷ 255 ∷ 255 ∷ 255 ∷ 255 ∷ 255 ∷ 255 ∷ 255 ∷ 255 ∷ 255 ∷ 255 ∷ 255 ∷ 255 ∷ 255 ∷ 255 ∷ 255 ∷ 255 ∷ 255 ∷ 255 ∷ 255 ∷ 255 ∷ 255 ∷ 255 ∷ 255 ∷ 255 ∷ 255 ∷ 255 ∷ 255 ∷ 255 ∷ 255 ∷ 255 ∷ 255 ∷ 255 ∷ 255 ∷ 255 ∷ 255 ∷ 255 ∷ 255 ∷ 255 ∷ 255 ∷ 255 ∷ 255 ∷ 255 ∷ 255 ∷ 255 ∷ 255 ∷ 255 ∷ 255 ∷ 255 ∷ 255 ∷ 255 ∷ 255 ∷ 255 ∷ 255 ∷ 255 ∷ 255 ∷ 255 ∷ 255 ∷ 255 ∷ 255 ∷ 255 ∷ 255 ∷ 255 ∷ 255 ∷ 255 ∷ 255 ∷ 255 ∷ 1 ∷ 0 ∷ 4 ∷ 8 ∷ 27 ∷ 12 ∷ 1 ∷ 8 ∷ 2 ∷ 8 ∷ 3 ∷ 8 ∷ 2 ∷ 5 ∷ []

-- the table says what the list of kinds says
pub in_table : (k : ℕ) → k < 142 → get_or table k 0 ≡ body_of k
unfolding body_of
in_table k h = eqb→eq (get_or table k 0) (body_of k) (at right table tt k h)

-- a body that is as long as its kind says
pub enough : (k m : ℕ) {l kind : ℕ} → l ≡ body_of kind → kind ≡ k → body_of k ≡ m → m ≤ l
enough k m p q r = let e : _ ≡ m = p ∙ ap body_of q ∙ r in omega arith
