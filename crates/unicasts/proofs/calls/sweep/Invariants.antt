use Rattle.sending.specs.Rules.{sweep_turn}
use Rattle.actions.proofs.Sweeps.{Sweeping}
use Rattle.tables.specs.Layouts.{unicast_table}
use Rattle.records.specs.Records.{unicast_entry}
use Prim.Native.Nat.{◌-◌}
use Rattle.unicasts.proofs.calls.sweep.Given as goal

abbrev pub invariant-loop-i : goal.invariant-loop-i
invariant-loop-i l = Sweeping unicast_table unicast_entry (sweep_turn l.which) l.initial.w l.sends l.initial.told l.at l.w l.n l.told l.m l.i

abbrev pub decreases-loop-i : goal.decreases-loop-i
decreases-loop-i l = l.n - l.i
