-- What is told of a clock that was lent, and where it stands.
use Rattle.std.specs.Prelude.{ℕ, Result, Ok, Err}
use Rattle.records.specs.Numbers.{refusal_number}
use Rattle.records.specs.declared.Refusal.{Refusal}
use Rattle.clock.specs.Types.{Clock, Numbers}

abbrev pub clock_at : ℕ → ℕ → Clock
clock_at l t = record { last = l; time = t }

-- the clock that a reading leaves, moved or not
abbrev pub clock_of : Result Clock (Refusal × Clock) → Clock
clock_of (Err (r, c)) = c
clock_of (Ok c) = c

-- the refusal, or the time of the clock that moved
abbrev pub told_of : Result Clock (Refusal × Clock) → Result ℕ Refusal
told_of (Err (r, c)) = Err r
told_of (Ok c) = Ok c.time

-- 0 where the reading was taken, and else the refusal's number
abbrev pub told_number : Result ℕ Refusal → ℕ
told_number (Err r) = refusal_number r
told_number (Ok t) = 0

abbrev pub numbers_at : ℕ → Clock → Numbers
numbers_at n c = record { refusal = n; last = c.last; time = c.time }

abbrev pub numbers_from : Result ℕ Refusal → Clock → Numbers
numbers_from t c = numbers_at (told_number t) c

abbrev pub numbers_of : Result Clock (Refusal × Clock) → Numbers
numbers_of a = numbers_from (told_of a) (clock_of a)
