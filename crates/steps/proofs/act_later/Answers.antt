-- Each of the later kinds is its own; any other is Malformed.
use native.Mathlib.Omega.{arith}
use mathlib.Core.Path.{refl}
use borrow.Author.Tests.{ne_eqb}
use Rattle.framing.specs.Kinds.{body_of}
use Rattle.framing.proofs.Bodies.{enough}
use Rattle.events.specs.Events.{event_of}
use Rattle.events.specs.Signals as sig
use Rattle.doing.proofs.Doings.{did-as, does-quiet}
use Rattle.steps.proofs.act_later.Goals as goal

pub u16_at-requires : goal.u16_at-requires
unfolding body_of
u16_at-requires c =
    enough 10 2 c.requires.body_len c.in-10.is refl

pub u16_at-requires-in-11 : goal.u16_at-requires-in-11
unfolding body_of
u16_at-requires-in-11 c =
    enough 11 2 c.requires.body_len c.in-11.is refl

pub u16_at-requires-in-13 : goal.u16_at-requires-in-13
unfolding body_of
u16_at-requires-in-13 c =
    let l = enough 13 3 c.requires.body_len c.in-13.is refl in
    omega arith

pub byte_at-requires : goal.byte_at-requires
unfolding body_of
byte_at-requires c =
    enough 13 3 c.requires.body_len c.in-13.is refl

pub u32_at-requires : goal.u32_at-requires
unfolding body_of
u32_at-requires c =
    enough 15 4 c.requires.body_len c.in-15.is refl

pub u64_at-requires : goal.u64_at-requires
unfolding body_of
u64_at-requires c =
    enough 16 8 c.requires.body_len c.in-16.is refl

pub returns-in-10 : goal.returns-in-10
unfolding event_of sig.retry_of
returns-in-10 c = rw (c.in-10.is, ← c.u16_at.ensures) c.retry_discovery.ensures

pub returns-in-11 : goal.returns-in-11
unfolding event_of sig.fail_of
returns-in-11 c = rw (c.in-11.is, ← c.u16_at-in-11.ensures) c.fail_unrouted.ensures

pub returns-in-12 : goal.returns-in-12
unfolding event_of
returns-in-12 c = rw c.in-12.is c.on_route.ensures

pub returns-in-13 : goal.returns-in-13
unfolding event_of sig.delivered_of
returns-in-13 c = rw (c.in-13.is, ← c.u16_at-in-13.ensures, ← c.byte_at.ensures) c.broadcast_delivered.ensures

pub returns-in-14 : goal.returns-in-14
unfolding event_of
returns-in-14 c = rw c.in-14.is c.on_drop.ensures

pub returns-in-15 : goal.returns-in-15
unfolding event_of sig.cancel_of
returns-in-15 c = rw (c.in-15.is, ← c.u32_at.ensures) c.cancel.ensures

pub returns-in-16 : goal.returns-in-16
unfolding event_of sig.tick_of
returns-in-16 c = rw (c.in-16.is, ← c.u64_at.ensures) c.tick.ensures

pub returns-in-21 : goal.returns-in-21
unfolding event_of
returns-in-21 c = rw c.in-21.is c.on_held.ensures

pub returns-in-22 : goal.returns-in-22
unfolding event_of
returns-in-22 c = rw c.in-22.is c.on_awaiting.ensures

pub returns-in_default : goal.returns-in_default
unfolding event_of
returns-in_default c =
    rw (ne_eqb _ 1 c.requires.plain.0.0.0.0, ne_eqb _ 2 c.requires.later.0.0.0.0.0.0.0, ne_eqb _ 3 c.requires.later.0.0.0.0.0.0.1, ne_eqb _ 4 c.requires.later.0.0.0.0.0.1, ne_eqb _ 5 c.requires.later.0.0.0.0.1, ne_eqb _ 6 c.requires.later.0.0.0.1, ne_eqb _ 7 c.requires.later.0.0.1, ne_eqb _ 8 c.requires.later.0.1, ne_eqb _ 9 c.requires.later.1, ne_eqb _ 10 c.in_default.in_default-own.rest.0.0.0.0.0.0.0.0.1, ne_eqb _ 11 c.in_default.in_default-own.rest.0.0.0.0.0.0.0.1, ne_eqb _ 12 c.in_default.in_default-own.rest.0.0.0.0.0.0.1, ne_eqb _ 13 c.in_default.in_default-own.rest.0.0.0.0.0.1, ne_eqb _ 14 c.in_default.in_default-own.rest.0.0.0.0.1, ne_eqb _ 15 c.in_default.in_default-own.rest.0.0.0.1, ne_eqb _ 16 c.in_default.in_default-own.rest.0.0.1, ne_eqb _ 17 c.requires.plain.0.0.0.1, ne_eqb _ 18 c.requires.plain.0.0.1, ne_eqb _ 19 c.requires.plain.0.1, ne_eqb _ 20 c.requires.plain.1, ne_eqb _ 21 c.in_default.in_default-own.rest.0.1, ne_eqb _ 22 c.in_default.in_default-own.rest.1) (did-as c.quiet.ensures (does-quiet c.requires.sound_tables _ _))

pub on_route-requires-clause-in_bounds : goal.on_route-requires-clause-in_bounds
unfolding body_of
on_route-requires-clause-in_bounds c = enough 12 235 c.requires.body_len c.in-12.is refl

pub on_drop-requires-clause-in_bounds : goal.on_drop-requires-clause-in_bounds
unfolding body_of
on_drop-requires-clause-in_bounds c = enough 14 11 c.requires.body_len c.in-14.is refl

pub on_held-requires-clause-in_bounds : goal.on_held-requires-clause-in_bounds
unfolding body_of
on_held-requires-clause-in_bounds c = enough 21 2 c.requires.body_len c.in-21.is refl

pub on_awaiting-requires-clause-in_bounds : goal.on_awaiting-requires-clause-in_bounds
unfolding body_of
on_awaiting-requires-clause-in_bounds c = enough 22 9 c.requires.body_len c.in-22.is refl
