use mathlib.Core.Path.{sym, ◌∙◌}
use Rattle.rows.proofs.Answers.{opens}
use Rattle.rows.proofs.enter.Goals as goal

pub open-requires : goal.open-requires
open-requires c =
    let e = sym c.in-Err.is ∙ c.find.ensures in
    opens c.requires.searched c.args.key _ e c.if-room-n.false c.requires.n_le_room.1
