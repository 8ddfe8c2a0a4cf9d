-- 01's list of kinds with the length of each body.
use Rattle.std.specs.Prelude.{ℕ, List, [], ◌∷◌, eqb}
use Rattle.records.specs.Pick.{pick}

-- the length that the list gives a kind; 255 where it has none
abbrev pub length_in : List (ℕ × ℕ) → ℕ → ℕ
length_in [] k = 255
length_in (p ∷ ps) k = pick (eqb k p.0) p.1 (length_in ps k)

-- kind and length: the events, then the answers
abbrev pub bodies : List (ℕ × ℕ)
bodies =
    (1, 10) ∷ (2, 43) ∷ (3, 47) ∷ (4, 34) ∷ (5, 34) ∷ (6, 8) ∷ (7, 24) ∷ (8, 20) ∷ (9, 10) ∷ (10, 2) ∷ (11, 2)
    ∷ (12, 235) ∷ (13, 3) ∷ (14, 11) ∷ (15, 4) ∷ (16, 8) ∷ (17, 0) ∷ (18, 0) ∷ (19, 10) ∷ (20, 0) ∷ (21, 2) ∷ (22, 9)
    ∷ (128, 1) ∷ (129, 0) ∷ (130, 4) ∷ (131, 8) ∷ (132, 27) ∷ (133, 12) ∷ (134, 1)
    ∷ (135, 8) ∷ (136, 2) ∷ (137, 8) ∷ (138, 3) ∷ (139, 8) ∷ (140, 2) ∷ (141, 5) ∷ []

unfoldable pub body_of : ℕ → ℕ
body_of k = length_in bodies k
