-- How many whole records a trace begins with.
use Rattle.std.specs.Prelude.{ℕ, zero, suc, ◌+◌, List, length}
use Rattle.framing.specs.Reader.{stands_at}
use Rattle.framing.specs.declared.Standing.{Standing}
use Rattle.framing.specs.declared.Standing.TheVariants.{Record, Unknown, Cut, End}

-- one for a record, and those that stand from the next on; none past what is no whole record
abbrev pub count_of : (ℕ → ℕ) → Standing → ℕ
count_of rest (Record kind start next) = 1 + rest next
count_of rest Unknown = 0
count_of rest Cut = 0
count_of rest End = 0

-- from a place on, at most as many as the first number allows
abbrev pub records_from : ℕ → List ℕ → ℕ → ℕ
records_from zero s at = 0
records_from (suc m) s at = count_of (records_from m s) (stands_at s at)

-- a record has a byte at least, so the trace's length allows them all
abbrev pub records_in : List ℕ → ℕ
records_in s = records_from (length s) s 0
