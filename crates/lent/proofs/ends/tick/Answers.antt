use native.Mathlib.Omega.{arith}
use mathlib.Core.Path.{◌≡◌, refl, sym, ◌∙◌}
use mathlib.Core.Bool.{false}
use Rattle.records.specs.Records.{unicast_entry}
use Rattle.rows.specs.Tables.{live}
use Rattle.rows.proofs.Promises.{held-length, held-holds}
use Rattle.tables.specs.Layouts.{unicast_table, unrouted_table}
use Rattle.sending.specs.Rules.{tick_turn}
use Rattle.unrouted.specs.declared.Which.TheVariants.{Lapsed}
use Rattle.actions.proofs.Lines.{told-append}
use Rattle.model.specs.Calls.{late}
use Rattle.model.proofs.Fews.{each_two, sweep-one}
use Rattle.lent.proofs.ends.tick.Goals as goal

pub returns : goal.returns
returns c =
    let x = c.tick-x.ensures in
    let y = c.sweep-y.ensures in
    let z = c.tick-z.ensures in
    let e : late c.args.clock ≡ false = sym c.too_late.ensures ∙ c.if-too_late.false in
    rw e
    (record {
      next = refl;
      unicasts = x.table;
      unrouted = y.table;
      held = held-holds c.requires.held;
      broadcasts = z.table;
      answer = refl;
      tells = told-append x.tells (told-append y.tells z.tells);
    })

pub sweep-y-requires-clause-sends_bound : goal.sweep-y-requires-clause-sends_bound
sweep-y-requires-clause-sends_bound c =
    let us = live unicast_table c.args.w.now c.args.c.unicasts in
    omega (arith, c.tick-x.ensures.tells.next, each_two unicast_entry (tick_turn c.args.clock) us, held-length c.requires.unicasts, c.requires.unicasts.within, c.requires.unrouted.within)

pub tick-z-requires-clause-sends_bound : goal.tick-z-requires-clause-sends_bound
tick-z-requires-clause-sends_bound c =
    let us = live unicast_table c.args.w.now c.args.c.unicasts in
    let vs = live unrouted_table c.args.v.now c.args.c.unrouted in
    omega (arith, c.sweep-y.ensures.tells.next, sweep-one (Lapsed c.args.clock) vs, held-length c.requires.unrouted, c.requires.unrouted.within, c.tick-x.ensures.tells.next, each_two unicast_entry (tick_turn c.args.clock) us, held-length c.requires.unicasts, c.requires.unicasts.within, c.requires.broadcasts.within)
