-- The sooner of two times, one of which may be missing.
use Rattle.std.specs.Prelude.{ℕ, leb, Option, None, Some}
use Rattle.records.specs.Pick.{pick}

abbrev pub sooner : ℕ → Option ℕ → Option ℕ
sooner t None = Some t
sooner t (Some u) = Some (pick (leb t u) t u)
