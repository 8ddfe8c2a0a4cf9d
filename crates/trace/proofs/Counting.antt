-- The count of a trace's whole records, as its loop has it: what is counted, and what stands from here on, is the whole. Assumes nothing.
use Prim.Native.Nat.{ℕ, zero, suc, ◌+◌, ◌-◌, ◌≤◌}
use mathlib.Core.Path.{◌≡◌, refl, sym, ap, ◌∙◌}
use mathlib.Core.List.{List}
use native.Mathlib.Nat.{zero-add, sub-zero}
use native.Mathlib.Omega.{arith}
use lib.ListN.{length}
use borrow.Author.Tests.{le-leb}
use Rattle.framing.specs.Reader.{stands_at}
use Rattle.framing.specs.declared.Standing.{Standing}
use Rattle.framing.specs.declared.Standing.TheVariants.{Record, Unknown, Cut, End}
use Rattle.framing.proofs.Reading.{stood}
use Rattle.trace.specs.Reading.{count_of, records_from, records_in}

-- at place at, with n counted: each record took a byte at least, so that as many are still allowed as there are bytes
pub record Counting (s : List ℕ) (at n : ℕ) : Type 0 where
  pub within : at ≤ length s
  pub behind : n ≤ at
  pub whole : n + records_from (length s - n) s at ≡ records_in s

pub start : (s : List ℕ) → Counting s 0 0
start s = record { within = omega arith; behind = omega arith; whole = rw (sub-zero, zero-add) }

-- what stands is no whole record
abbrev NoRecord : Standing → Type 0
NoRecord t = (k b next : ℕ) → t ≡ Record k b next → ⊥

none_after : (rest : ℕ → ℕ) (t : Standing) → NoRecord t → count_of rest t ≡ 0
none_after rest (Record kind from next) o = absurd (o kind from next refl)
none_after rest Unknown o = refl
none_after rest Cut o = refl
none_after rest End o = refl

module _ (s : List ℕ) (at n : ℕ) where
  pub go_on : (k b next : ℕ) → stands_at s at ≡ Record k b next → Counting s at n → Counting s next (n + 1)
  go_on k b next e c =
      let p = stood s at k b next e in
      let i = p.inside in
      let j = p.next-is in
      let l = c.behind in
      let m : length s - n ≡ suc (length s - (n + 1)) = omega arith in
      let one : records_from (length s - n) s at ≡ 1 + records_from (length s - (n + 1)) s next = ap (λ (x : ℕ). records_from x s at) m ∙ ap (count_of (records_from (length s - (n + 1)) s)) e in
      let w = c.whole in
      record { within = i; behind = omega arith; whole = omega arith }

  -- what is no whole record ends the count, whatever is still allowed
  none : (m : ℕ) (t : Standing) → NoRecord t → t ≡ stands_at s at → records_from m s at ≡ 0
  none zero t o e = refl
  none (suc m) t o e = ap (count_of (records_from m s)) (sym e) ∙ none_after (records_from m s) t o

  pub stop : (t : Standing) → NoRecord t → t ≡ stands_at s at → Counting s at n → n ≡ records_in s
  stop t o e c =
      let z = none (length s - n) t o e in
      let w = c.whole in
      omega arith

-- ---- the trace's length allows them all: more would count no more

module _ (s : List ℕ) where
  past : (at : ℕ) → length s ≤ at → stands_at s at ≡ End
  past at h = rw (le-leb _ _ h)

  -- one more is allowed on either side
  step : (m k at : ℕ) → length s ≤ at + suc m → length s ≤ at + suc k → ((next : ℕ) → length s ≤ next + m → length s ≤ next + k → records_from m s next ≡ records_from k s next)
      → (t : Standing) → stands_at s at ≡ t → count_of (records_from m s) t ≡ count_of (records_from k s) t
  step m k at h l rest (Record kind from next) e =
      let j = (stood s at kind from next e).next-is in
      ap (λ (n : ℕ). 1 + n) (rest next (omega arith) (omega arith))
  step m k at h l rest Unknown e = refl
  step m k at h l rest Cut e = refl
  step m k at h l rest End e = refl

  same : (m k at : ℕ) → length s ≤ at + m → length s ≤ at + k → records_from m s at ≡ records_from k s at
  same zero zero at h l = refl
  same zero (suc k) at h l = sym (ap (count_of (records_from k s)) (past at (omega arith)))
  same (suc m) zero at h l = ap (count_of (records_from m s)) (past at (omega arith))
  same (suc m) (suc k) at h l = step m k at h l (same m k) (stands_at s at) refl

  pub all-allowed : (m : ℕ) → length s ≤ m → records_from m s 0 ≡ records_in s
  all-allowed m h = same m (length s) 0 (omega arith) (omega arith)
