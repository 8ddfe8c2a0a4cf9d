use Rattle.casting.specs.Rules.{tick_turn}
use Rattle.actions.proofs.Sweeps.{Sweeping}
use Rattle.tables.specs.Layouts.{broadcast_table}
use Rattle.records.specs.Records.{broadcast_entry}
use Prim.Native.Nat.{◌-◌}
use Rattle.broadcasts.proofs.moves.tick_each.Given as goal

abbrev pub invariant-loop-i : goal.invariant-loop-i
invariant-loop-i l = Sweeping broadcast_table broadcast_entry (tick_turn l.clock) l.initial.w l.sends l.initial.told l.at l.w l.n l.told l.m l.i

abbrev pub decreases-loop-i : goal.decreases-loop-i
decreases-loop-i l = l.n - l.i
