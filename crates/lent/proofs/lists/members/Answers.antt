use Rattle.std.specs.Prelude.{Some}
use native.Mathlib.Omega.{arith}
use mathlib.Core.Path.{refl, sym, ◌∙◌}
use mathlib.Core.List.{[], ◌∷◌}
use Rattle.rows.specs.Tables.{live}
use Rattle.rows.proofs.Promises.{held-length}
use Rattle.tables.specs.Layouts.{unicast_table}
use Rattle.model.specs.Steps.{members_of}
use Rattle.lent.proofs.Fillings.{fill_start, fill_one, fill-turn, fill_end, after, after_none, members-few, next-left, next-none}
use Rattle.lent.proofs.lists.members.Goals as goal

pub loop-m-init : goal.loop-m-init
loop-m-init c = fill_start (members_of c.args.book c.args.eui.now c.args.nwk.now (live unicast_table c.args.w.now c.args.n)) c.args.out.now (after_none (members_of c.args.book c.args.eui.now c.args.nwk.now (live unicast_table c.args.w.now c.args.n)))

pub returns-in-None : goal.returns-in-None
returns-in-None c =
    let at = c.loop-m in
    fill_end at.invariant refl (next-none c.args.book c.args.eui.now c.args.nwk.now (live unicast_table c.args.w.now c.args.n) at.last (sym c.in-None.is ∙ c.next_member.ensures))

pub loop-m-preserved : goal.loop-m-preserved
loop-m-preserved c =
    let at = c.loop-m in
    let x = c.in-Some.x in
    fill-turn at.invariant (x ∷ []) (after (Some x) (members_of c.args.book c.args.eui.now c.args.nwk.now (live unicast_table c.args.w.now c.args.n)))
    (next-left c.args.book c.args.eui.now c.args.nwk.now (live unicast_table c.args.w.now c.args.n) at.last x (sym c.in-Some.is ∙ c.next_member.ensures)) (fill_one at.out at.m x)

pub returns : goal.returns
returns c =
    let at = c.loop-m in
    fill_end at.invariant (omega arith) (omega (arith, at.invariant.many, members-few c.args.book c.args.eui.now c.args.nwk.now (live unicast_table c.args.w.now c.args.n), held-length c.requires, c.requires.within))
