-- Settings, abandon, the next wake, a pair, the lists.
use Rattle.std.specs.Prelude.{Option, ℕ}
use native.Mathlib.Omega.{arith}
use mathlib.Core.Path.{refl, ap}
use mathlib.Core.List.{[], ◌∷◌, ◌++◌}
use Rattle.framing.specs.Kinds.{body_of}
use Rattle.framing.proofs.Bodies.{enough}
use Rattle.events.specs.Events.{event_of}
use Rattle.events.specs.Signals.{settings_of, pair_of}
use Rattle.answers.specs.Items.{items_bytes}
use Rattle.listings.specs.Listings.{wake_items}
use Rattle.listings.proofs.Pairings.{sound-fits}
use Rattle.exchange.specs.Types.{Settings, Done}
use Rattle.exchange.specs.World.{World, world_of}
use Rattle.exchange.proofs.Arms.{own-last}
use Rattle.exchange.proofs.Answers.{answering-as}
use Rattle.exchange.proofs.Worlds.{turned-still, lists-are}
use Rattle.exchange.proofs.serve.Goals as goal

pub settings_in-settings-requires : goal.settings_in-settings-requires
unfolding body_of
settings_in-settings-requires c =
    enough 1 10 c.requires.body_len c.in-1.is refl

pub u64_at-x-requires : goal.u64_at-x-requires
unfolding body_of
u64_at-x-requires c =
    let l = enough 19 10 c.requires.body_len c.in-19.is refl in
    omega arith

pub u16_at-y-requires : goal.u16_at-y-requires
unfolding body_of
u16_at-y-requires c =
    enough 19 10 c.requires.body_len c.in-19.is refl

pub returns-in-1 : goal.returns-in-1
unfolding event_of settings_of
returns-in-1 c =
    rw c.in-1.is (turned-still c.requires.ready c.args.s (ap (λ (x : Settings). world_of c.args.c c.args.w.now c.args.v.now c.args.d.now c.args.b.now x c.args.eui.now c.args.nwk.now c.args.pairs) c.settings_in-settings.ensures) c.answer_done-wrote.ensures)

pub returns-in-17 : goal.returns-in-17
unfolding event_of
returns-in-17 c = rw c.in-17.is c.abandon.ensures

pub returns-in-18 : goal.returns-in-18
unfolding event_of
returns-in-18 c =
    rw c.in-18.is (turned-still c.requires.ready c.args.s refl (answering-as (ap (λ (o : Option ℕ). items_bytes (wake_items o ++ (Done ∷ []))) c.next_wake-t.ensures) c.answer_wake-wrote.ensures))

pub returns-in-19 : goal.returns-in-19
unfolding event_of pair_of
returns-in-19 c = rw (c.in-19.is, ← c.u64_at-x.ensures, ← c.u16_at-y.ensures) c.pair.ensures

pub returns-in_default : goal.returns-in_default
unfolding event_of
returns-in_default c =
    let w : World = world_of c.args.c c.args.w.now c.args.v.now c.args.d.now c.args.b.now c.args.s c.args.eui.now c.args.nwk.now c.args.pairs in
    rw (own-last c.requires.kind_value c.in_default.in_default-own.rest.0.0.0.1 c.in_default.in_default-own.rest.0.0.1 c.in_default.in_default-own.rest.0.1 c.in_default.in_default-own.rest.1) (turned-still c.requires.ready c.args.s refl (answering-as (ap items_bytes (lists-are w (sound-fits c.requires.ready.map))) c.answer_lists-wrote.ensures))
