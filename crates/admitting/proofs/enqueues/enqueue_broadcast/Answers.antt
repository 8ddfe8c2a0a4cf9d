use mathlib.Core.Path.{◌≡◌, sym, ◌∙◌}
use mathlib.Core.Bool.{true, false}
use lib.ListN.{length}
use lib.Dec.{eqb, leb}
use borrow.Author.Tests.{ne_eqb}
use Rattle.records.specs.Limits.{no_id, broadcast_room}
use Rattle.rows.specs.Tables.{live}
use Rattle.tables.specs.Layouts.{broadcast_table}
use Rattle.casting.specs.Rules.{no_copies}
use Rattle.model.specs.Calls.{late, attempt_late}
use Rattle.doing.specs.Types.{NoPlace}
use Rattle.doing.proofs.Doings.{does-deny}
use Rattle.doing.proofs.Enters.{is-full}
use Rattle.admitting.proofs.enqueues.enqueue_broadcast.Goals as goal

pub returns-then-c-ge16 : goal.returns-then-c-ge16
returns-then-c-ge16 c =
    let e : late c.args.clock ≡ false = sym c.too_late.ensures ∙ c.if-too_late.false in
    let a : attempt_late c.args.u.schedule ≡ false = sym c.attempt_late.ensures ∙ c.if-attempt_late.false in
    let n : no_copies c.args.u.schedule ≡ false = sym c.no_copies.ensures ∙ c.if-no_copies.false in
    let f : eqb c.args.c.next_id no_id ≡ false = ne_eqb c.args.c.next_id no_id c.if-c-eq4294967295.false in
    let g : leb broadcast_room (length (live broadcast_table c.args.b.now c.args.c.broadcasts)) ≡ true = is-full 16 c.requires.broadcasts c.if-c-ge16.true in
    rw (e, a, n, f, g) (does-deny c.requires NoPlace c.denied-then-c-ge16.ensures)
