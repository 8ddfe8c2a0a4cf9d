-- What a question puts into a lent array.
use Rattle.std.specs.Prelude.{ℕ, ◌+◌, ◌≡◌, List, length, Option, None, Some}
use Rattle.std.proofs.lemmas.List.Edits.{sets}
use Rattle.records.specs.Pick.{pick}
use Rattle.sending.specs.Members.{map_fits}
use Rattle.model.specs.Steps.{members_of}
use Rattle.doing.specs.Types.{Unicast, Book}

-- the numbers are put from place `at` on, every other stays, and r is the next place
pub record Filled (at : ℕ) (xs out out' : List ℕ) (r : ℕ) : Type 0 where
  pub words : out' ≡ sets out at xs
  pub next : r ≡ at + length xs

-- the members of a source-match set and how many they are, or, where the slices are no address map, nothing
pub record Matching (book : Book) (es ns : List ℕ) (us : List Unicast) (out out' : List ℕ) (r : Option ℕ) : Type 0 where
  pub answer : r ≡ pick (map_fits es ns) (Some (length (members_of book es ns us))) None
  pub words : out' ≡ pick (map_fits es ns) (sets out 0 (members_of book es ns us)) out
