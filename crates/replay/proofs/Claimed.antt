-- What a case claims, it has room for here. Assumes nothing.
use Rattle.std.specs.Prelude.{Option, None, Some}
use Prim.Native.Nat.{ℕ, ◌≤◌}
use native.Mathlib.Omega.{arith}
use mathlib.Core.Path.{◌≡◌, subst}
use mathlib.Core.List.{List}
use lib.Dec.{ltb}
use borrow.Author.Tests.{ltb-false}
use Rattle.records.proofs.Cases.{either-by}
use Rattle.replay.specs.declared.cases.Case.{Case}
use Rattle.replay.specs.Cases.{four_in, case_in, case_by}

abbrev Fits : Option Case → Type 0
Fits (Some k) = (k.capacity ≤ 4096) × ((k.long ≤ 65537) × (k.answers ≤ 4096))
Fits None = Unit {0}

fits : (c l a : ℕ) → Fits (case_by c l a)
fits c l a =
    either-by Fits (ltb 4096 c) (λ _. tt)
    (λ p. either-by Fits (ltb 65537 l) (λ _. tt)
    (λ q. either-by Fits (ltb c a) (λ _. tt)
    (λ r. (ltb-false 4096 c p, (ltb-false 65537 l q, omega (arith, ltb-false 4096 c p, ltb-false c a r))))))

pub claims-fit : (b : List ℕ) {k : Case} → case_in b ≡ Some k → (k.capacity ≤ 4096) × ((k.long ≤ 65537) × (k.answers ≤ 4096))
claims-fit b e = subst Fits e (fits (four_in b 0) (four_in b 4) (four_in b 8))
