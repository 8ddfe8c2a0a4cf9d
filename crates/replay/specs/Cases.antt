-- The form of a case file (stored/README.md): what twelve bytes say.
use Rattle.std.specs.Prelude.{ℕ, ◌+◌, ◌*◌, List, Option, Some, None, get_or, ltb, eqb}
use Rattle.records.specs.Pick.{pick}
use Rattle.replay.specs.declared.cases.Case.{Case}

-- a number of four bytes, the lowest first
unfoldable pub four_in : List ℕ → ℕ → ℕ
four_in b at = get_or b at 0 + 256 * get_or b (at + 1) 0 + 65536 * get_or b (at + 2) 0 + 16777216 * get_or b (at + 3) 0

-- the letters SENDS, two zeros and 1; then how many cases follow
abbrev pub head_in : List ℕ → Option ℕ
head_in b = pick (eqb (four_in b 0) 1145980243) (pick (eqb (four_in b 4) 16777299) (Some (four_in b 8)) None) None

abbrev pub case_by : ℕ → ℕ → ℕ → Option Case
case_by capacity long answers =
    pick (ltb 4096 capacity) None (pick (ltb 65537 long) None (pick (ltb capacity answers) None (Some (record { capacity = capacity; long = long; answers = answers }))))

abbrev pub case_in : List ℕ → Option Case
case_in b = case_by (four_in b 0) (four_in b 4) (four_in b 8)
