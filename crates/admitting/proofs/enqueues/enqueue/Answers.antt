use mathlib.Core.Path.{◌≡◌, sym, ◌∙◌}
use mathlib.Core.Bool.{true, false}
use lib.ListN.{length}
use lib.Dec.{eqb, leb}
use borrow.Author.Tests.{ne_eqb}
use Rattle.records.specs.Limits.{no_id, unicast_room}
use Rattle.rows.specs.Tables.{live}
use Rattle.tables.specs.Layouts.{unicast_table}
use Rattle.model.specs.Calls.{late}
use Rattle.doing.specs.Types.{NoPlace}
use Rattle.doing.proofs.Doings.{does-deny}
use Rattle.doing.proofs.Enters.{is-full}
use Rattle.admitting.proofs.enqueues.enqueue.Goals as goal

pub returns-then-c-ge32 : goal.returns-then-c-ge32
returns-then-c-ge32 c =
    let e : late c.args.clock ≡ false = sym c.too_late.ensures ∙ c.if-too_late.false in
    let f : eqb c.args.c.next_id no_id ≡ false = ne_eqb c.args.c.next_id no_id c.if-c-eq4294967295.false in
    let g : leb unicast_room (length (live unicast_table c.args.w.now c.args.c.unicasts)) ≡ true = is-full 32 c.requires.unicasts c.if-c-ge32.true in
    rw (e, f, g) (does-deny c.requires NoPlace c.denied-then-c-ge32.ensures)
