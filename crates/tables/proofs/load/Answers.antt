use Rattle.tables.proofs.Writes.{row-read}
use Rattle.tables.proofs.load.Goals as goal

pub returns : goal.returns
returns g c =
    let m = g.met.R.Record in
    let h = rw (← m.room_is) at c.requires.there in
    rw (c.read.ensures, c.WIDTH.ensures, c.WIDTH-2.ensures, ← m.width_is) (row-read m.lawful c.args.w.now c.args.i h)
