-- The tables are emptied, and the list is answered if it fits.
use mathlib.Core.Path.{refl}
use mathlib.Core.List.{map}
use Rattle.model.specs.Model.{Model, lent_model}
use Rattle.model.specs.Calls.{abandoned}
use Rattle.listings.specs.Listings.{abandoned_items}
use Rattle.exchange.specs.World.{abandonment}
use Rattle.exchange.proofs.Answers.{answering-as, done-same}
use Rattle.exchange.proofs.Listings.{abandoned-bytes}
use Rattle.exchange.proofs.Worlds.{abandoned-few, turned-abandon}
use Rattle.exchange.proofs.abandon.Goals as goal

pub returns : goal.returns
returns c =
    let h = c.abandon-x.ensures in
    let m : Model = lent_model c.args.c c.args.w.now c.args.v.now c.args.d.now c.args.b.now in
    turned-abandon c.requires.ready c.args.s h (answering-as (done-same (abandoned_items c.abandon-x.new.list c.abandon-x.result.listed) (map abandonment (abandoned m)) (abandoned-bytes h.lists refl (abandoned-few c.requires.ready.tables))) c.answer_abandoned-wrote.ensures)
