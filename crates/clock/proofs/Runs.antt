-- A run of readings keeps true time: specs/Claims. Assumes nothing.
use Rattle.std.specs.Prelude.{Result}
use Rattle.std.proofs.Common.{◌≡◌, ℕ, ◌+◌, ◌-◌, ◌≤◌, List, [], ◌∷◌, ap, ◌∙◌, arith}
use Rattle.records.specs.declared.Refusal.{Refusal}
use Rattle.clock.specs.Types.{Clock}
use Rattle.clock.specs.Lent.{clock_at, clock_of}
use Rattle.clock.specs.Claims.{shown, ran, Close, final, KeepsTime, ShowsTrueTime}
use Rattle.clock.proofs.Steps.{reading-is-exact}

-- the last true time is no earlier than the first, so no time before it is past the limit either
later-on : (t : ℕ) (us : List ℕ) → Close t us → t ≤ final t us
later-on t [] c = omega arith
later-on t (u ∷ us) c = omega (arith, c.0, later-on u us c.1.1)

pub keeps-time : KeepsTime
keeps-time t s [] c fits = let e : s ≡ s + (t - t) = omega arith in ap (clock_at (shown t)) e
keeps-time t s (u ∷ us) c fits =
    let l = later-on u us c.1.1 in
    let e : s + (u - t) + (final u us - u) ≡ s + (final u us - t) = omega (arith, c.0, l) in
    let step = reading-is-exact t u s c.0 c.1.0 (omega (arith, c.0, l, fits)) in
    ap (λ (a : Result Clock (Refusal × Clock)). ran (clock_of a) us) step
    ∙ (keeps-time u (s + (u - t)) us c.1.1 (omega (arith, e, fits)) ∙ ap (clock_at (shown (final u us))) e)

pub shows-true-time : ShowsTrueTime
shows-true-time t us c fits =
    let l = later-on t us c in
    let e : t + (final t us - t) ≡ final t us = omega (arith, l) in
    ap (λ (k : Clock). k.time) (keeps-time t t us c (omega (arith, e, fits))) ∙ e
