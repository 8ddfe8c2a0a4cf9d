-- The sixteen results of a route: what is left to read, from here, makes the whole; and all are right where each is.
use Prim.Native.Nat.{ℕ, zero, suc, ◌+◌, ◌-◌, ◌*◌, ◌<◌}
use mathlib.Core.Path.{◌≡◌, refl, ap, ◌∙◌}
use mathlib.Core.Bool.{Bool, true, false, ◌&&◌}
use mathlib.Core.List.{List, ◌∷◌}
use native.Mathlib.Numerals.{add-one}
use native.Mathlib.Omega.{arith}
use lib.ListN.{set}
use lib.Seq.{sets}
use Rattle.std.specs.List.{list_all, range_with_len}
use Rattle.records.specs.Pick.{pick}
use Rattle.events.specs.Types.{Resolved}
use Rattle.events.specs.Routes.{resolved_at, result_in, results_from, entry_right, entries_right}

module _ (b : List ℕ) where
  turn : (i : ℕ) → i < 16 → results_from b i (16 - i) ≡ result_in (resolved_at (i * 14 + 11) b) ∷ results_from b (i + 1) (16 - (i + 1))
  turn i h =
      let e : 16 - i ≡ suc (16 - suc i) = omega arith in
      rw (add-one i, e)

  pub stored : (rs w : List Resolved) (i : ℕ) (r : Resolved) → i < 16 → r ≡ result_in (resolved_at (i * 14 + 11) b) → sets rs i (results_from b i (16 - i)) ≡ w
      → sets (set rs i r) (i + 1) (results_from b (i + 1) (16 - (i + 1))) ≡ w
  stored rs w i r h q inv = rw (q, add-one i) (rw (turn i h, add-one i) at inv)

  -- each of n entries from number i on is right
  pub each-right : (count i n : ℕ) → list_all (entry_right b count) (range_with_len i n) ≡ entries_right b count i n
  each-right count i zero = refl
  each-right count i (suc n) = both (entry_right b count i) (ap (λ (k : ℕ). list_all (entry_right b count) (range_with_len k n)) (add-one i) ∙ each-right count (suc i) n)
    where
      both : (x : Bool) {y z : Bool} → y ≡ z → x && y ≡ pick x z false
      both true e = e
      both false e = refl
