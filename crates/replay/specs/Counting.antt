-- What is counted over the cases of an input, file after file.
use Rattle.std.specs.Prelude.{ℕ, ◌+◌, ◌-◌, ◌≤◌, Bool, ltb}
use Rattle.records.specs.Pick.{pick}
use Rattle.replay.specs.declared.counting.Spot.{Spot}
use Rattle.replay.specs.declared.counting.Tally.{Tally}

abbrev pub spot_at : ℕ → ℕ → Spot
spot_at f p = record { file = f; place = p }

abbrev pub blank : Tally
blank = record { left = 0; here = spot_at 0 0; first = spot_at 0 0; cases = 0; agreed = 0 }

-- no count is above k, the number of heads and cases that were read
pub record Few (k : ℕ) (t : Tally) : Type 0 where
  pub files : t.here.file ≤ k
  pub places : t.here.place ≤ k
  pub cases : t.cases ≤ k
  pub agreed : t.agreed ≤ k

abbrev pub begun_of : Tally → ℕ → Tally
begun_of t n = record { left = n; here = spot_at (t.here.file + 1) 0; first = t.first; cases = t.cases; agreed = t.agreed }

abbrev pub past : Tally → ℕ → Spot → Tally
past t n f = record { left = t.left - 1; here = spot_at t.here.file (t.here.place + 1); first = f; cases = t.cases + 1; agreed = n }

-- a case that agrees is counted; of those that do not, the first is kept
abbrev pub counted_of : Tally → Bool → Tally
counted_of t ok = pick ok (past t (t.agreed + 1) t.first) (pick (ltb t.agreed t.cases) (past t t.agreed t.first) (past t t.agreed t.here))
