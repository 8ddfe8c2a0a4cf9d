-- The wrapped difference of two readings is the one that specs/Clock names, and what the clock's test says of it. Assumes nothing.
use Rattle.std.specs.Prelude.{Ok, Err}
use Rattle.std.proofs.Common.{◌≡◌, ℕ, ◌+◌, ◌-◌, ◌%◌, ◌^◌, ◌<◌, ◌≤◌, ap, ◌∙◌, arith, le-leb}
use borrow.Author.Tests.{lt-leb}
use Rattle.records.specs.Limits.{last_time}
use Rattle.records.specs.declared.Refusal.TheVariants.{TimeTooLate}
use Rattle.clock.specs.Types.{Clock}
use Rattle.clock.specs.Clock.{round, since, moved, advance_of}

-- the number below 2^32 that added to the last reading wraps to the new one
pub wraps : (last reading d : ℕ) → last < round → d < round → (d + last) % 2 ^ 32 ≡ reading → d ≡ since last reading
wraps last reading d l b e = let h : (d + last) % 4294967296 ≡ reading = e in omega arith

module _ (c : Clock) (reading d : ℕ) (l : c.last < round) (b : d < round) (e : (d + c.last) % 2 ^ 32 ≡ reading) where
  pub unmoved : last_time - d < c.time → Err (TimeTooLate, c) ≡ advance_of c reading
  unmoved t = let w = wraps c.last reading d l b e in rw (lt-leb (moved c reading).time last_time (omega (arith, w)))

  pub taken : c.time ≤ last_time - d → Ok (record { last = reading; time = c.time + d }) ≡ advance_of c reading
  taken t =
      let w = wraps c.last reading d l b e in
      ap (λ (n : ℕ). Ok (record { last = reading; time = c.time + n })) w ∙ rw (le-leb (moved c reading).time last_time (omega (arith, w)))
