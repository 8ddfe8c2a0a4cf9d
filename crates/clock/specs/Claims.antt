-- What the clock is claimed to do, in 01's words; proofs/Steps and proofs/Runs prove it. A true time is one that never wraps; the
-- radio shows it modulo 2^32.
use Rattle.std.specs.Prelude.{◌≡◌, ℕ, ◌+◌, ◌-◌, ◌%◌, ◌<◌, ◌≤◌, ◌↔◌, List, [], ◌∷◌, ◌≢◌, Ok, Err}
use Rattle.records.specs.Limits.{last_time}
use Rattle.records.specs.declared.Refusal.{Refusal}
use Rattle.records.specs.declared.Refusal.TheVariants.{TimeTooLate}
use Rattle.clock.specs.Types.{Clock}
use Rattle.clock.specs.Clock.{round, since, fresh_of, advance_of}
use Rattle.clock.specs.Lent.{clock_at, clock_of}

-- what the counter shows at a true time
abbrev pub shown : ℕ → ℕ
shown t = t % round

-- a clock that the tables can take the time of
pub record Sound (c : Clock) : Type 0 where
  pub in_time : c.time ≤ last_time

-- ---- one reading

-- A READING MOVES THE TIME by the true time that has passed, modulo 2^32: what is lost of a longer gap is whole rounds
abbrev pub SinceIsElapsed : Type 0
SinceIsElapsed = (t u : ℕ) → t ≤ u → since (shown t) (shown u) ≡ (u - t) % round

-- LESS THAN A ROUND LATER nothing is lost: the time moves on by the true time that has passed, up to 2^62 itself
abbrev pub ReadingIsExact : Type 0
ReadingIsExact =
    (t u s : ℕ) → t ≤ u → u < t + round → s + (u - t) ≤ last_time
    → advance_of (clock_at (shown t) s) (shown u) ≡ Ok (clock_at (shown u) (s + (u - t)))

-- ONCE ROUND LOSES NOTHING: a reading on the way and then the first one again have moved the time by 2^32
abbrev pub OnceRound : Type 0
OnceRound =
    (c : Clock) (r : ℕ) → c.last < round → r < round → (r ≢ c.last) → c.time + round ≤ last_time
    → clock_of (advance_of (clock_of (advance_of c r)) c.last) ≡ clock_at c.last (c.time + round)

-- ---- refusals

-- A READING IS REFUSED exactly when it takes the time past 2^62
abbrev pub RefusedExactly : Type 0
RefusedExactly = (c : Clock) (r : ℕ) → (advance_of c r ≡ Err (TimeTooLate, c)) ↔ (last_time < c.time + since c.last r)

-- A REFUSED READING CHANGES NOTHING, neither the time nor the last reading, and is refusal 1
abbrev pub RefusedChangesNothing : Type 0
RefusedChangesNothing = (c d : Clock) (r : ℕ) (x : Refusal) → advance_of c r ≡ Err (x, d) → (x ≡ TimeTooLate) × (d ≡ c)

-- THE TIME STAYS SOUND, and never goes back
abbrev pub FreshIsSound : Type 0
FreshIsSound = (r t : ℕ) (c : Clock) → fresh_of r t ≡ Ok c → Sound c

abbrev pub AdvanceKeepsSound : Type 0
AdvanceKeepsSound = (c : Clock) (r : ℕ) → Sound c → Sound (clock_of (advance_of c r))

abbrev pub NeverBack : Type 0
NeverBack = (c : Clock) (r : ℕ) → c.time ≤ (clock_of (advance_of c r)).time

-- ---- a run of readings

-- the clock after each of the readings of some true times
abbrev pub ran : Clock → List ℕ → Clock
ran c [] = c
ran c (t ∷ ts) = ran (clock_of (advance_of c (shown t))) ts

-- true times from t on, each less than a round after the one before
abbrev pub Close : ℕ → List ℕ → Type 0
Close t [] = Unit {0}
Close t (u ∷ us) = (t ≤ u) × ((u < t + round) × Close u us)

-- the last of them
abbrev pub final : ℕ → List ℕ → ℕ
final t [] = t
final t (u ∷ us) = final u us

-- THE CLOCK KEEPS TRUE TIME: started at any time s while the true time is t, it has moved on by exactly the true time that has
-- passed, however often the counter wrapped
abbrev pub KeepsTime : Type 0
KeepsTime =
    (t s : ℕ) (us : List ℕ) → Close t us → s + (final t us - t) ≤ last_time
    → ran (clock_at (shown t) s) us ≡ clock_at (shown (final t us)) (s + (final t us - t))

-- started at the true time, it shows the true time
abbrev pub ShowsTrueTime : Type 0
ShowsTrueTime = (t : ℕ) (us : List ℕ) → Close t us → final t us ≤ last_time → (ran (clock_at (shown t) t) us).time ≡ final t us
