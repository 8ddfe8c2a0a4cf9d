-- The choice between two values by a test, and a test as a number.
use Rattle.std.specs.Prelude.{ℕ, Bool, true, false}

-- the first where the test holds, and the second where not
abbrev pub pick {ℓ} : {A : Type ℓ} → Bool → A → A → A
pick true a b = a
pick false a b = b

-- 1 where the test holds, and 0 where not
abbrev pub bit : Bool → ℕ
bit true = 1
bit false = 0
