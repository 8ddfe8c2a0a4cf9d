-- `count_records` meets its contract: proofs/Counting holds at each turn of its loop. It calls a function with plain parameters, so it has no walk. Assumes nothing.
use Prim.Native.Nat.{◌-◌}
use lib.ListN.{length}
use Rattle.trace.proofs.Counting.{Counting}
use Rattle.trace.proofs.reader.count_records.Given as goal

abbrev pub invariant-loop-next : goal.invariant-loop-next
invariant-loop-next l = Counting l.trace l.at l.n

abbrev pub decreases-loop-next : goal.decreases-loop-next
decreases-loop-next l = length l.trace - l.at
