use native.Mathlib.Omega.{arith}
use Rattle.rows.proofs.Held.{holds-put}
use Rattle.rows.proofs.Answers.{roomy}
use Rattle.tables.proofs.store.Goals as goal

pub put-requires-clause-there : goal.put-requires-clause-there
put-requires-clause-there g c = rw (← g.met.R.Record.room_is) (omega (arith, c.requires.held.within, c.requires.stands.there))

pub put-requires-clause-long : goal.put-requires-clause-long
put-requires-clause-long g c =
    let m = g.met.R.Record in
    rw (← m.width_is, ← m.room_is) (roomy m.lawful c.requires.held).1

pub returns : goal.returns
returns g c = holds-put g.met.R.Record.lawful c.requires.held c.requires.stands c.put.ensures
