use Rattle.std.specs.Prelude.{None, Ok, Err}
use native.Mathlib.Omega.{arith}
use mathlib.Core.Path.{◌≡◌, refl, sym, ap, ◌∙◌}
use mathlib.Core.Bool.{true, false}
use lib.ListN.{get_or}
use Rattle.records.specs.Records.{blank_broadcast, broadcast_id, broadcast_entry}
use Rattle.rows.specs.Lists.{lookup}
use Rattle.rows.specs.Tables.{rows_of, live}
use Rattle.rows.specs.Moves.{any_of, has_id}
use Rattle.rows.proofs.Promises.{here-some, nowhere-none, hit-lookup, miss-lookup, held-holds}
use Rattle.tables.specs.Layouts.{unicast_table, broadcast_table}
use Rattle.actions.proofs.Lines.{told-append}
use Rattle.sending.specs.Rules.{sent_copy}
use Rattle.casting.specs.Rules.{cancel_turn}
use Rattle.model.specs.Calls.{cast_bar, cancel_broadcast}
use Rattle.model.specs.Model.{lent_model}
use Rattle.model.proofs.Fews.{first_two}
use Rattle.doing.specs.Types.{NoSuchSend, InTheRadio}
use Rattle.lent.proofs.Barrings.{does-barred, answered-as, cast-sent, cast-own}
use Rattle.lent.proofs.ends.cancel_broadcast.Goals as goal

pub returns-in-None : goal.returns-in-None
returns-in-None c =
    let us = live unicast_table c.args.w.now c.args.c.unicasts in
    let e = miss-lookup c.requires.broadcasts c.args.id (nowhere-none _ (sym c.in-None.is ∙ c.find.ensures)) in
    does-barred c.requires (cancel_broadcast (lent_model c.args.c c.args.w.now c.args.v.now c.args.d.now c.args.b.now) c.args.id) NoSuchSend (ap (cast_bar c.args.id us) e) refl refl refl c.denied.ensures

pub returns-in-Some : goal.returns-in-Some
returns-in-Some c =
    let us = live unicast_table c.args.w.now c.args.c.unicasts in
    let e = hit-lookup c.requires.broadcasts c.args.id _ (here-some _ _ (sym c.in-Some.is ∙ c.find.ensures)) in
    let t : any_of (sent_copy c.args.id) us ≡ true = sym c.copy_in_radio.ensures ∙ c.if-copy_in_radio.true in
    does-barred c.requires (cancel_broadcast (lent_model c.args.c c.args.w.now c.args.v.now c.args.d.now c.args.b.now) c.args.id) InTheRadio (ap (cast_bar c.args.id us) e ∙ cast-sent c.args.id us (get_or (rows_of broadcast_table c.args.b.now) c.in-Some.field-0 blank_broadcast) t) refl refl refl c.denied-in-Some.ensures

pub returns-in-Err : goal.returns-in-Err
returns-in-Err c =
    let x = c.in-Err.e in
    let g = answered-as c.cancel.ensures (Err x) c.in-Err.is in
    let us = live unicast_table c.args.w.now c.args.c.unicasts in
    let t : any_of (sent_copy c.args.id) us ≡ false = sym c.copy_in_radio.ensures ∙ c.if-copy_in_radio.false in
    does-barred c.requires (cancel_broadcast (lent_model c.args.c c.args.w.now c.args.v.now c.args.d.now c.args.b.now) c.args.id) x (cast-own c.args.id us (lookup broadcast_id c.args.id (live broadcast_table c.args.b.now c.args.c.broadcasts)) t ∙ sym g.answer) refl g.table.0 g.table.1 c.denied-in-Err.ensures

pub returns-in-Ok : goal.returns-in-Ok
returns-in-Ok c =
    let x = c.in-Ok.x in
    let g = answered-as c.cancel.ensures (Ok x) c.in-Ok.is in
    let us = live unicast_table c.args.w.now c.args.c.unicasts in
    let t : any_of (sent_copy c.args.id) us ≡ false = sym c.copy_in_radio.ensures ∙ c.if-copy_in_radio.false in
    let e : cast_bar c.args.id us (lookup broadcast_id c.args.id (live broadcast_table c.args.b.now c.args.c.broadcasts)) ≡ None = cast-own c.args.id us (lookup broadcast_id c.args.id (live broadcast_table c.args.b.now c.args.c.broadcasts)) t ∙ sym g.answer in
    rw e
    (record {
      next = refl;
      unicasts = c.cancel_copies-y.ensures.table;
      unrouted = held-holds c.requires.unrouted;
      held = held-holds c.requires.held;
      broadcasts = g.table.table;
      answer = refl;
      tells = told-append g.table.tells c.cancel_copies-y.ensures.tells;
    })

pub cancel_copies-y-requires-clause-n_bound : goal.cancel_copies-y-requires-clause-n_bound
cancel_copies-y-requires-clause-n_bound c =
    let g = answered-as c.cancel.ensures (Ok c.in-Ok.x) c.in-Ok.is in
    let bs = live broadcast_table c.args.b.now c.args.c.broadcasts in
    omega (arith, g.table.tells.next, first_two broadcast_entry (has_id broadcast_entry c.args.id) cancel_turn bs, c.requires.unicasts.within)
