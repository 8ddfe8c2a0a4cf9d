use mathlib.Core.Path.{◌≡◌, sym, ◌∙◌}
use mathlib.Core.Bool.{false}
use Rattle.model.specs.Model.{lent_model}
use Rattle.model.specs.Calls.{late}
use Rattle.doing.specs.Types.{NothingQueued}
use Rattle.doing.proofs.Doings.{does-as, did-as, does-quiet}
use Rattle.lending.specs.declared.radio.Chosen.TheVariants.{NoSend, OneUnicast, OneBroadcast}
use Rattle.lending.proofs.Chosen.{chosen_is}
use Rattle.lending.proofs.radio.dequeue.Goals as goal

pub returns-in-NoSend : goal.returns-in-NoSend
returns-in-NoSend c =
    let e : late c.args.clock ≡ false = sym c.too_late.ensures ∙ c.if-too_late.false in
    does-as (chosen_is (lent_model c.args.c c.args.w.now c.args.v.now c.args.d.now c.args.b.now) c.args.clock NoSend e c.best_queued-x.ensures c.best_queued-y.ensures c.choose.ensures c.in-NoSend.is) (did-as c.quiet.ensures (does-quiet c.requires NothingQueued c.args.told.now))

pub returns-in-OneUnicast : goal.returns-in-OneUnicast
returns-in-OneUnicast c =
    let e : late c.args.clock ≡ false = sym c.too_late.ensures ∙ c.if-too_late.false in
    does-as (chosen_is (lent_model c.args.c c.args.w.now c.args.v.now c.args.d.now c.args.b.now) c.args.clock (OneUnicast _) e c.best_queued-x.ensures c.best_queued-y.ensures c.choose.ensures c.in-OneUnicast.is) c.lend_unicast.ensures

pub returns-in-OneBroadcast : goal.returns-in-OneBroadcast
returns-in-OneBroadcast c =
    let e : late c.args.clock ≡ false = sym c.too_late.ensures ∙ c.if-too_late.false in
    does-as (chosen_is (lent_model c.args.c c.args.w.now c.args.v.now c.args.d.now c.args.b.now) c.args.clock (OneBroadcast _) e c.best_queued-x.ensures c.best_queued-y.ensures c.choose.ensures c.in-OneBroadcast.is) c.lend_broadcast.ensures
