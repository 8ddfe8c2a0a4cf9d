use Rattle.rows.proofs.Held.{held-searched}
use Rattle.rows.proofs.Answers.{sought}
use Rattle.tables.proofs.find.Goals as goal

pub seek-requires : goal.seek-requires
seek-requires g c =
    let m = g.met.R.Record in
    rw (c.WIDTH.ensures, ← m.width_is) (held-searched m.lawful c.requires)

pub returns : goal.returns
returns g c =
    let m = g.met.R.Record in
    sought m.lawful c.requires _ _ (rw (c.WIDTH.ensures, ← m.width_is, c.from.ensures) at c.seek.ensures)
