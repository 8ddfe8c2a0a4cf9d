use Prim.Native.Nat.{◌-◌}
use Rattle.records.specs.Records.{unrouted_entry}
use Rattle.tables.specs.Layouts.{unrouted_table}
use Rattle.actions.proofs.Sweeps.{Sweeping}
use Rattle.unrouted.specs.Rules.{sweep_turn}
use Rattle.unrouted.proofs.sweep.Given as goal

abbrev pub invariant-loop-i : goal.invariant-loop-i
invariant-loop-i l = Sweeping unrouted_table unrouted_entry (sweep_turn l.which) l.initial.w l.sends l.initial.told l.at l.w l.n l.told l.m l.i

abbrev pub decreases-loop-i : goal.decreases-loop-i
decreases-loop-i l = l.n - l.i
