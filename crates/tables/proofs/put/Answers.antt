use Rattle.tables.proofs.Writes.{row-put}
use Rattle.tables.proofs.put.Goals as goal

pub returns : goal.returns
returns g c =
    let m = g.met.R.Record in
    let r = rw (← m.width_is, ← m.room_is) at c.requires in
    let e = c.write.ensures in
    rw (c.WIDTH.ensures, c.WIDTH-2.ensures, ← m.width_is)
    (row-put m.lawful c.args.w.now c.write.new.row c.args.i c.args.u r.there r.long e.words e.back)
