-- The records in turn: three ways to an end, the fourth where answers do not fit, and on.
use Prim.Native.Nat.{◌-◌}
use lib.ListN.{length}
use Rattle.walking.proofs.Walking.{Walking}
use Rattle.walking.proofs.walk.Given as goal

abbrev pub invariant-loop-out : goal.invariant-loop-out
invariant-loop-out l =
    Walking l.trace l.initial.out l.out l.c l.w l.v l.d l.b l.told l.s l.eui l.nwk l.pairs l.at l.o

abbrev pub decreases-loop-out : goal.decreases-loop-out
decreases-loop-out l =
    length l.trace - l.at
