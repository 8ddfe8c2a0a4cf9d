use Rattle.rows.proofs.Held.{held-searched}
use Rattle.rows.proofs.Answers.{roomy, over-lt, new-lt, shut-entered, over-entered, new-entered}
use Rattle.tables.proofs.insert.Goals as goal

pub enter-requires-clause-searched : goal.enter-requires-clause-searched
enter-requires-clause-searched g c =
    let m = g.met.R.Record in
    rw (c.WIDTH.ensures, ← m.width_is) (held-searched m.lawful c.requires)

pub enter-requires-clause-n_le_room : goal.enter-requires-clause-n_le_room
enter-requires-clause-n_le_room g c =
    let m = g.met.R.Record in
    rw (c.WIDTH.ensures, c.ROOM.ensures, ← m.width_is, ← m.room_is) (roomy m.lawful c.requires)

pub put-requires-clause-there : goal.put-requires-clause-there
put-requires-clause-there g c =
    let m = g.met.R.Record in
    let s = rw (c.WIDTH.ensures, c.ROOM.ensures, c.from.ensures, c.key.ensures, ← m.width_is, ← m.room_is) at c.enter.ensures in
    rw (← m.room_is) (over-lt m.lawful c.requires c.args.u s _ c.in-Over.is)

pub put-requires-clause-long : goal.put-requires-clause-long
put-requires-clause-long g c =
    let m = g.met.R.Record in
    rw (c.enter.auto.w, ← m.width_is, ← m.room_is) (roomy m.lawful c.requires).1

pub put-requires-in-New-clause-there : goal.put-requires-in-New-clause-there
put-requires-in-New-clause-there g c =
    let m = g.met.R.Record in
    let s = rw (c.WIDTH.ensures, c.ROOM.ensures, c.from.ensures, c.key.ensures, ← m.width_is, ← m.room_is) at c.enter.ensures in
    rw (← m.room_is) (new-lt m.lawful c.requires c.args.u s _ c.in-New.is)

pub put-requires-in-New-clause-long : goal.put-requires-in-New-clause-long
put-requires-in-New-clause-long g c =
    let m = g.met.R.Record in
    rw (c.enter.auto.w, ← m.width_is, ← m.room_is) (roomy m.lawful c.requires).1

pub returns-in-Shut : goal.returns-in-Shut
returns-in-Shut g c =
    let m = g.met.R.Record in
    let s = rw (c.WIDTH.ensures, c.ROOM.ensures, c.from.ensures, c.key.ensures, ← m.width_is, ← m.room_is) at c.enter.ensures in
    shut-entered m.lawful c.requires c.args.u s c.in-Shut.is

pub returns-in-Over : goal.returns-in-Over
returns-in-Over g c =
    let m = g.met.R.Record in
    let s = rw (c.WIDTH.ensures, c.ROOM.ensures, c.from.ensures, c.key.ensures, ← m.width_is, ← m.room_is) at c.enter.ensures in
    over-entered m.lawful c.requires c.args.u s _ c.in-Over.is c.put.ensures

pub returns-in-New : goal.returns-in-New
returns-in-New g c =
    let m = g.met.R.Record in
    let s = rw (c.WIDTH.ensures, c.ROOM.ensures, c.from.ensures, c.key.ensures, ← m.width_is, ← m.room_is) at c.enter.ensures in
    new-entered m.lawful c.requires c.args.u s _ c.in-New.is c.put-in-New.ensures
