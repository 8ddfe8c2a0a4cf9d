use Prim.Native.Nat.{◌≤◌}
use mathlib.Core.List.{map}
use lib.ListN.{drop}
use Rattle.codes.specs.Codes.{quorum_word}
use Rattle.rows.specs.Tables.{live}
use Rattle.tables.specs.Layouts.{broadcast_table}
use Rattle.casting.specs.Rules.{awaited_of}
use Rattle.lent.proofs.Fillings.{Filling}
use Rattle.lent.proofs.lists.awaiting_quorum.Given as goal

abbrev pub invariant-loop-i : goal.invariant-loop-i
invariant-loop-i l =
    (l.m ≤ l.i)
    × Filling (map quorum_word (awaited_of (drop l.i (live broadcast_table l.b l.n)))) (map quorum_word (awaited_of (live broadcast_table l.b l.n))) l.initial.out l.out l.m
