-- What the clock does with a reading, over the natural numbers.
use Rattle.std.specs.Prelude.{ℕ, ◌+◌, ◌-◌, ◌%◌, nat_le, Result, Ok, Err}
use Rattle.records.specs.Limits.{last_time}
use Rattle.records.specs.Pick.{pick}
use Rattle.records.specs.declared.Refusal.TheVariants.{TimeTooLate}
use Rattle.records.specs.declared.Refusal.{Refusal}
use Rattle.clock.specs.Types.{Clock}

-- how many values the counter has, 2^32
abbrev pub round : ℕ
round = 4294967296

-- the milliseconds from one reading to the next: their difference modulo 2^32
abbrev pub since : ℕ → ℕ → ℕ
since last reading = (reading + round - last) % round

-- the clock after a reading that it takes
abbrev pub moved : Clock → ℕ → Clock
moved c reading = record { last = reading; time = c.time + since c.last reading }

-- a time up to 2^62 is taken, and a later one refused
abbrev pub fresh_of : ℕ → ℕ → Result Clock Refusal
fresh_of reading time = pick (nat_le time last_time) (Ok (record { last = reading; time = time })) (Err TimeTooLate)

-- a reading that takes the time past 2^62 is refused, and the clock stays as it was
abbrev pub advance_of : Clock → ℕ → Result Clock (Refusal × Clock)
advance_of c reading = pick (nat_le (moved c reading).time last_time) (Ok (moved c reading)) (Err (TimeTooLate, c))
