use Rattle.rows.proofs.Held.{held-searched}
use Rattle.rows.proofs.Answers.{left}
use Rattle.tables.proofs.remove.Goals as goal

pub leave-requires : goal.leave-requires
leave-requires g c =
    let m = g.met.R.Record in
    rw (c.WIDTH.ensures, ← m.width_is) (held-searched m.lawful c.requires)

pub returns : goal.returns
returns g c =
    let m = g.met.R.Record in
    left m.lawful c.requires _ (rw (c.WIDTH.ensures, ← m.width_is, c.from.ensures) at c.leave.ensures)
