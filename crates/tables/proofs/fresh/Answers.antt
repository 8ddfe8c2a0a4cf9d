use Rattle.tables.proofs.Writes.{zeros-hold}
use Rattle.tables.proofs.fresh.Goals as goal

pub returns : goal.returns
returns g c =
    λ size. let m = g.met.R.Record in
    zeros-hold m.lawful g.row.N (rw (← m.width_is, ← m.room_is) at size)
