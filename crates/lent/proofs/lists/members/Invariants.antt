use Rattle.rows.specs.Tables.{live}
use Rattle.tables.specs.Layouts.{unicast_table}
use Rattle.model.specs.Steps.{members_of}
use Rattle.lent.proofs.Fillings.{Filling, after}
use Rattle.lent.proofs.lists.members.Given as goal

abbrev pub invariant-loop-m : goal.invariant-loop-m
invariant-loop-m l =
    Filling (after l.last (members_of l.book l.eui l.nwk (live unicast_table l.w l.n))) (members_of l.book l.eui l.nwk (live unicast_table l.w l.n)) l.initial.out l.out l.m
