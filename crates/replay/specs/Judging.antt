-- When a case agrees.
use Rattle.std.specs.Prelude.{ℕ, Bool, true, false, ◌&&◌, List, [], ◌∷◌, length, get_or, drop, eqb}

-- two lists are one
abbrev pub same : List ℕ → List ℕ → Bool
same [] [] = true
same [] (y ∷ ys) = false
same (x ∷ xs) [] = false
same (x ∷ xs) (y ∷ ys) = eqb x y && same xs ys

-- an output begins with the answers, as far as it goes, and holds the pattern past them
abbrev pub holds : List ℕ → List ℕ → Bool
holds answers [] = true
holds answers (x ∷ out) = eqb x (get_or answers 0 165) && holds (drop 1 answers) out

-- and the number returned is their length
abbrev pub agrees_of : List ℕ → ℕ → List ℕ → Bool
agrees_of out n answers = eqb n (length answers) && holds answers out
