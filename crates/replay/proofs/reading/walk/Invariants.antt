-- No count is above the number of heads and cases that were read, and this stays below its bound.
use Rattle.replay.specs.Counting.{Few}
use Rattle.replay.proofs.reading.walk.Given as goal

abbrev pub invariant-loop-k : goal.invariant-loop-k
invariant-loop-k g l = Few l.k l.t
