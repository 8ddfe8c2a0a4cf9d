use Rattle.rows.proofs.Held.{held-searched, holds-removed}
use Rattle.tables.proofs.remove_at.Goals as goal

pub close-requires : goal.close-requires
close-requires g c =
    let m = g.met.R.Record in
    rw (c.WIDTH.ensures, ← m.width_is) (c.requires.i_lt_n, (held-searched m.lawful c.requires.held).there)

pub returns : goal.returns
returns g c =
    let m = g.met.R.Record in
    holds-removed m.lawful c.requires.held _ c.requires.i_lt_n (rw (c.WIDTH.ensures, ← m.width_is) at c.close.ensures)
