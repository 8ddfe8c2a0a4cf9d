-- Answers into a lent output: all of them, if they fit before the six bytes that are kept for the end, or nothing.
use Rattle.std.specs.Prelude.{ℕ, ◌+◌, ◌-◌, ◌≡◌, Bool, List, ltb, length}
use Rattle.std.proofs.lemmas.List.Edits.{sets}
use Rattle.records.specs.Pick.{pick}
use Rattle.answers.specs.Items.{items_bytes}
use Rattle.exchange.specs.Types.{Item}

-- bytes from place at on would reach into the last six of an output that has cap
abbrev pub overfull : ℕ → ℕ → List ℕ → Bool
overfull cap at bytes = ltb (cap - at) (length bytes + 6)

-- r is the place after them, or 0
pub record Answering (items : List Item) (at : ℕ) (out out' : List ℕ) (r : ℕ) : Type 0 where
  pub wrote : r ≡ pick (overfull (length out) at (items_bytes items)) 0 (at + length (items_bytes items))
  pub bytes : out' ≡ pick (overfull (length out) at (items_bytes items)) out (sets out at (items_bytes items))
