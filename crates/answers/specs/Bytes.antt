-- Numbers as bytes, the lower first, and what an output holds once bytes are written from a place on.
use Rattle.std.specs.Prelude.{ℕ, zero, suc, ◌+◌, ◌%◌, ◌/◌, ◌≡◌, List, [], ◌∷◌, length}
use Rattle.std.proofs.lemmas.List.Edits.{sets}

-- a number in so many bytes
abbrev pub le_bytes : ℕ → ℕ → List ℕ
le_bytes zero n = []
le_bytes (suc width) n = n % 256 ∷ le_bytes width (n / 256)

-- out' is out with the bytes one after the other from place at on, and r is the next place
pub record Written (at : ℕ) (bytes out out' : List ℕ) (r : ℕ) : Type 0 where
  pub holds : out' ≡ sets out at bytes
  pub next : r ≡ at + length bytes
