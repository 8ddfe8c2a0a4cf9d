use mathlib.Core.List.{map}
use lib.ListN.{drop}
use Rattle.records.specs.Records.{destination_address}
use Rattle.rows.specs.Tables.{live}
use Rattle.tables.specs.Layouts.{destination_table}
use Rattle.lent.proofs.Fillings.{Filling}
use Rattle.lent.proofs.lists.destinations.Given as goal

abbrev pub invariant-loop-i : goal.invariant-loop-i
invariant-loop-i l =
    Filling (map destination_address (drop l.i (live destination_table l.d l.k))) (map destination_address (live destination_table l.d l.k)) l.initial.out l.out l.i
