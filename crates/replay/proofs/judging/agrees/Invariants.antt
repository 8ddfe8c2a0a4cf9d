use Prim.Native.Nat.{◌≤◌}
use mathlib.Core.Path.{◌≡◌}
use lib.ListN.{length, drop}
use Rattle.replay.specs.Judging.{holds}
use Rattle.replay.proofs.judging.agrees.Given as goal

abbrev pub invariant-loop-i : goal.invariant-loop-i
invariant-loop-i l = holds (drop l.i l.answers) (drop l.i l.out) ≡ holds l.answers l.out
