use Prim.Native.Nat.{◌-◌, ◌≤◌}
use Rattle.rows.specs.Lists.{place_of}
use Rattle.rows.specs.Rows.{rows_from, itself, first_word}
use Rattle.rows.proofs.below.Given as goal

abbrev pub invariant-loop-lo : goal.invariant-loop-lo
invariant-loop-lo l =
    (l.lo ≤ place_of first_word l.key (rows_from l.width itself l.n l.w)) × (place_of first_word l.key (rows_from l.width itself l.n l.w) ≤ l.hi) × (l.hi ≤ l.n)

abbrev pub decreases-loop-lo : goal.decreases-loop-lo
decreases-loop-lo l = l.hi - l.lo
