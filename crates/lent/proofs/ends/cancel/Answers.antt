use mathlib.Core.Path.{◌≡◌}
use mathlib.Core.Bool.{true, false}
use Rattle.records.specs.Records.{unicast_id, unrouted_id, blank_unicast, blank_unrouted, unicast_entry, unrouted_entry}
use Rattle.rows.specs.Tables.{live}
use Rattle.rows.specs.Moves.{any_of, has_id}
use Rattle.tables.specs.Layouts.{unicast_table, unrouted_table}
use Rattle.lent.proofs.Barrings.{found-any, missed-any}
use Rattle.lent.proofs.ends.cancel.Goals as goal

pub returns-in-Some : goal.returns-in-Some
returns-in-Some c =
    let us = live unicast_table c.args.w.now c.args.c.unicasts in
    let e : any_of (has_id unicast_entry c.args.id) us ≡ true = found-any unicast_id c.args.id us c.find.ensures blank_unicast _ c.in-Some.is in
    rw e c.cancel_unicast.ensures

pub returns-in-Some-find : goal.returns-in-Some-find
returns-in-Some-find c =
    let us = live unicast_table c.args.w.now c.args.c.unicasts in
    let vs = live unrouted_table c.args.v.now c.args.c.unrouted in
    let e : any_of (has_id unicast_entry c.args.id) us ≡ false = missed-any unicast_id c.args.id us c.find.ensures c.in-None.is in
    let f : any_of (has_id unrouted_entry c.args.id) vs ≡ true = found-any unrouted_id c.args.id vs c.find-in-None.ensures blank_unrouted _ c.in-Some-find.is in
    rw (e, f) c.cancel_unrouted.ensures

pub returns-in-None-find : goal.returns-in-None-find
returns-in-None-find c =
    let us = live unicast_table c.args.w.now c.args.c.unicasts in
    let vs = live unrouted_table c.args.v.now c.args.c.unrouted in
    let e : any_of (has_id unicast_entry c.args.id) us ≡ false = missed-any unicast_id c.args.id us c.find.ensures c.in-None.is in
    let f : any_of (has_id unrouted_entry c.args.id) vs ≡ false = missed-any unrouted_id c.args.id vs c.find-in-None.ensures c.in-None-find.is in
    rw (e, f) c.cancel_broadcast.ensures
