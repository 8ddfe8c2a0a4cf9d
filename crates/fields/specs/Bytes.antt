-- Numbers as bytes, the lower first.
use Rattle.std.specs.Prelude.{ℕ, ◌+◌, ◌*◌, List, [], ◌∷◌, take, drop}

abbrev pub le : List ℕ → ℕ
le [] = 0
le (b ∷ bs) = b + 256 * le bs

-- the number of the w bytes from place at on
abbrev pub number : ℕ → ℕ → List ℕ → ℕ
number w at b = le (take w (drop at b))
