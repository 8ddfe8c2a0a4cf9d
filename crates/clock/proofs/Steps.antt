-- What one reading does: specs/Claims. Assumes nothing.
use Rattle.std.specs.Prelude.{Result, Ok, Err}
use Rattle.std.proofs.Common.{◌≡◌, ℕ, ◌+◌, ◌-◌, ◌<◌, ◌≤◌, Bool, true, false, sym, ap, ◌∙◌, subst, ⊎_elim, arith, le-leb}
use borrow.Author.Tests.{lt-leb}
use Rattle.records.specs.Limits.{last_time}
use Rattle.records.specs.declared.Refusal.{Refusal}
use Rattle.records.specs.declared.Refusal.TheVariants.{TimeTooLate}
use Rattle.records.proofs.Cases.{never, lt-or-le}
use Rattle.clock.specs.Types.{Clock}
use Rattle.clock.specs.Clock.{round, since, moved, fresh_of, advance_of}
use Rattle.clock.specs.Lent.{clock_at, clock_of}
use Rattle.clock.specs.Claims.{shown, Sound, SinceIsElapsed, ReadingIsExact, OnceRound, RefusedExactly, RefusedChangesNothing, FreshIsSound, AdvanceKeepsSound, NeverBack}

pub since-is-elapsed : SinceIsElapsed
since-is-elapsed t u le = omega arith

-- ---- an answer is one of two

abbrev is_moved : Result Clock (Refusal × Clock) → Bool
is_moved (Err (x, c)) = false
is_moved (Ok c) = true

abbrev refusal_of : Result Clock (Refusal × Clock) → Refusal
refusal_of (Err (x, c)) = x
refusal_of (Ok c) = TimeTooLate

abbrev is_running : Result Clock Refusal → Bool
is_running (Err x) = false
is_running (Ok c) = true

abbrev time_of : Result Clock Refusal → ℕ
time_of (Err x) = 0
time_of (Ok c) = c.time

-- the two answers, by what the time would be
pub takes : (c : Clock) (r : ℕ) → c.time + since c.last r ≤ last_time → advance_of c r ≡ Ok (moved c r)
takes c r le = rw (le-leb (c.time + since c.last r) last_time le)

pub refuses : (c : Clock) (r : ℕ) → last_time < c.time + since c.last r → advance_of c r ≡ Err (TimeTooLate, c)
refuses c r lt = rw (lt-leb (c.time + since c.last r) last_time lt)

-- ---- the claims

pub reading-is-exact : ReadingIsExact
reading-is-exact t u s le lt fits =
    let e : since (shown t) (shown u) ≡ u - t = omega arith in
    takes (clock_at (shown t) s) (shown u) (omega (arith, e)) ∙ ap (λ (d : ℕ). Ok (clock_at (shown u) (s + d))) e

pub once-round : OnceRound
once-round c r lb rb ne fits =
    let a : since c.last r + since r c.last ≡ round = omega arith in
    let first = takes c r (omega (arith, a)) in
    let second = takes (moved c r) c.last (omega (arith, a)) in
    let sum : c.time + since c.last r + since r c.last ≡ c.time + round = omega (arith, a) in
    ap (λ (d : Result Clock (Refusal × Clock)). clock_of (advance_of (clock_of d) c.last)) first ∙ (ap clock_of second ∙ ap (clock_at c.last) sum)

pub refused-exactly : RefusedExactly
refused-exactly c r = (
  (λ e. ⊎_elim (λ lt. lt) (λ le. never (sym (ap is_moved (sym (takes c r le) ∙ e)))) (lt-or-le last_time (c.time + since c.last r))),
  refuses c r,
)

pub refused-changes-nothing : RefusedChangesNothing
refused-changes-nothing c d r x e =
    ⊎_elim
    (λ lt. let f = sym e ∙ refuses c r lt in (ap refusal_of f, ap clock_of f))
    (λ le. never (ap is_moved (sym e ∙ takes c r le)))
    (lt-or-le last_time (c.time + since c.last r))

pub fresh-is-sound : FreshIsSound
fresh-is-sound r t c e =
    ⊎_elim
    (λ lt. never (ap is_running (sym (late lt) ∙ e)))
    (λ le. record { in_time = subst (λ (n : ℕ). n ≤ last_time) (ap time_of (sym (good le) ∙ e)) le })
    (lt-or-le last_time t)
  where
    late : last_time < t → fresh_of r t ≡ Err TimeTooLate
    late lt = rw (lt-leb t last_time lt)

    good : t ≤ last_time → fresh_of r t ≡ Ok (clock_at r t)
    good le = rw (le-leb t last_time le)

pub advance-keeps-sound : AdvanceKeepsSound
advance-keeps-sound c r s =
    ⊎_elim
    (λ lt. subst (λ (a : Result Clock (Refusal × Clock)). Sound (clock_of a)) (sym (refuses c r lt)) s)
    (λ le. subst (λ (a : Result Clock (Refusal × Clock)). Sound (clock_of a)) (sym (takes c r le)) (record { in_time = le }))
    (lt-or-le last_time (c.time + since c.last r))

pub never_back : NeverBack
never_back c r =
    ⊎_elim
    (λ lt. subst (λ (a : Result Clock (Refusal × Clock)). c.time ≤ (clock_of a).time) (sym (refuses c r lt)) (omega arith))
    (λ le. subst (λ (a : Result Clock (Refusal × Clock)). c.time ≤ (clock_of a).time) (sym (takes c r le)) (omega arith))
    (lt-or-le last_time (c.time + since c.last r))
