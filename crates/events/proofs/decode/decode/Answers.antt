use mathlib.Core.Path.{refl}
use borrow.Author.Tests.{ne_eqb}
use Rattle.framing.specs.Kinds.{body_of}
use Rattle.events.specs.Events.{event_of}
use Rattle.framing.proofs.Bodies.{enough}
use Rattle.events.proofs.decode.decode.Goals as goal

pub decode_settings-requires : goal.decode_settings-requires
unfolding body_of
decode_settings-requires c = enough 1 10 c.requires c.in-1.is refl

pub decode_unicast-requires : goal.decode_unicast-requires
unfolding body_of
decode_unicast-requires c = enough 2 43 c.requires c.in-2.is refl

pub decode_copy-requires : goal.decode_copy-requires
unfolding body_of
decode_copy-requires c = enough 3 47 c.requires c.in-3.is refl

pub decode_unrouted-requires : goal.decode_unrouted-requires
unfolding body_of
decode_unrouted-requires c = enough 4 34 c.requires c.in-4.is refl

pub decode_broadcast-requires : goal.decode_broadcast-requires
unfolding body_of
decode_broadcast-requires c = enough 5 34 c.requires c.in-5.is refl

pub decode_dequeue-requires : goal.decode_dequeue-requires
unfolding body_of
decode_dequeue-requires c = enough 6 8 c.requires c.in-6.is refl

pub decode_report-requires : goal.decode_report-requires
unfolding body_of
decode_report-requires c = enough 7 24 c.requires c.in-7.is refl

pub decode_poll-requires : goal.decode_poll-requires
unfolding body_of
decode_poll-requires c = enough 8 20 c.requires c.in-8.is refl

pub decode_ack-requires : goal.decode_ack-requires
unfolding body_of
decode_ack-requires c = enough 9 10 c.requires c.in-9.is refl

pub decode_retry-requires : goal.decode_retry-requires
unfolding body_of
decode_retry-requires c = enough 10 2 c.requires c.in-10.is refl

pub decode_fail-requires : goal.decode_fail-requires
unfolding body_of
decode_fail-requires c = enough 11 2 c.requires c.in-11.is refl

pub decode_route-requires : goal.decode_route-requires
unfolding body_of
decode_route-requires c = enough 12 235 c.requires c.in-12.is refl

pub decode_delivered-requires : goal.decode_delivered-requires
unfolding body_of
decode_delivered-requires c = enough 13 3 c.requires c.in-13.is refl

pub decode_drop-requires : goal.decode_drop-requires
unfolding body_of
decode_drop-requires c = enough 14 11 c.requires c.in-14.is refl

pub decode_cancel-requires : goal.decode_cancel-requires
unfolding body_of
decode_cancel-requires c = enough 15 4 c.requires c.in-15.is refl

pub decode_tick-requires : goal.decode_tick-requires
unfolding body_of
decode_tick-requires c = enough 16 8 c.requires c.in-16.is refl

pub decode_pair-requires : goal.decode_pair-requires
unfolding body_of
decode_pair-requires c = enough 19 10 c.requires c.in-19.is refl

pub decode_has_unrouted-requires : goal.decode_has_unrouted-requires
unfolding body_of
decode_has_unrouted-requires c = enough 21 2 c.requires c.in-21.is refl

pub decode_has_awaiting-requires : goal.decode_has_awaiting-requires
unfolding body_of
decode_has_awaiting-requires c = enough 22 9 c.requires c.in-22.is refl

pub returns-in-1 : goal.returns-in-1
unfolding event_of
returns-in-1 c = rw c.in-1.is c.decode_settings.ensures

pub returns-in-2 : goal.returns-in-2
unfolding event_of
returns-in-2 c = rw c.in-2.is c.decode_unicast.ensures

pub returns-in-3 : goal.returns-in-3
unfolding event_of
returns-in-3 c = rw c.in-3.is c.decode_copy.ensures

pub returns-in-4 : goal.returns-in-4
unfolding event_of
returns-in-4 c = rw c.in-4.is c.decode_unrouted.ensures

pub returns-in-5 : goal.returns-in-5
unfolding event_of
returns-in-5 c = rw c.in-5.is c.decode_broadcast.ensures

pub returns-in-6 : goal.returns-in-6
unfolding event_of
returns-in-6 c = rw c.in-6.is c.decode_dequeue.ensures

pub returns-in-7 : goal.returns-in-7
unfolding event_of
returns-in-7 c = rw c.in-7.is c.decode_report.ensures

pub returns-in-8 : goal.returns-in-8
unfolding event_of
returns-in-8 c = rw c.in-8.is c.decode_poll.ensures

pub returns-in-9 : goal.returns-in-9
unfolding event_of
returns-in-9 c = rw c.in-9.is c.decode_ack.ensures

pub returns-in-10 : goal.returns-in-10
unfolding event_of
returns-in-10 c = rw c.in-10.is c.decode_retry.ensures

pub returns-in-11 : goal.returns-in-11
unfolding event_of
returns-in-11 c = rw c.in-11.is c.decode_fail.ensures

pub returns-in-12 : goal.returns-in-12
unfolding event_of
returns-in-12 c = rw c.in-12.is c.decode_route.ensures

pub returns-in-13 : goal.returns-in-13
unfolding event_of
returns-in-13 c = rw c.in-13.is c.decode_delivered.ensures

pub returns-in-14 : goal.returns-in-14
unfolding event_of
returns-in-14 c = rw c.in-14.is c.decode_drop.ensures

pub returns-in-15 : goal.returns-in-15
unfolding event_of
returns-in-15 c = rw c.in-15.is c.decode_cancel.ensures

pub returns-in-16 : goal.returns-in-16
unfolding event_of
returns-in-16 c = rw c.in-16.is c.decode_tick.ensures

pub returns-in-17 : goal.returns-in-17
unfolding event_of
returns-in-17 c = rw c.in-17.is

pub returns-in-18 : goal.returns-in-18
unfolding event_of
returns-in-18 c = rw c.in-18.is

pub returns-in-19 : goal.returns-in-19
unfolding event_of
returns-in-19 c = rw c.in-19.is c.decode_pair.ensures

pub returns-in-20 : goal.returns-in-20
unfolding event_of
returns-in-20 c = rw c.in-20.is

pub returns-in-21 : goal.returns-in-21
unfolding event_of
returns-in-21 c = rw c.in-21.is c.decode_has_unrouted.ensures

pub returns-in-22 : goal.returns-in-22
unfolding event_of
returns-in-22 c = rw c.in-22.is c.decode_has_awaiting.ensures

pub returns-in_default : goal.returns-in_default
unfolding event_of
returns-in_default c = rw (ne_eqb _ 1 c.in_default.in_default-own.rest.0.0.0.0.0.0.0.0.0.0.0.0.0.0.0.0.0.0.0.0.0.1, ne_eqb _ 2 c.in_default.in_default-own.rest.0.0.0.0.0.0.0.0.0.0.0.0.0.0.0.0.0.0.0.0.1, ne_eqb _ 3 c.in_default.in_default-own.rest.0.0.0.0.0.0.0.0.0.0.0.0.0.0.0.0.0.0.0.1, ne_eqb _ 4 c.in_default.in_default-own.rest.0.0.0.0.0.0.0.0.0.0.0.0.0.0.0.0.0.0.1, ne_eqb _ 5 c.in_default.in_default-own.rest.0.0.0.0.0.0.0.0.0.0.0.0.0.0.0.0.0.1, ne_eqb _ 6 c.in_default.in_default-own.rest.0.0.0.0.0.0.0.0.0.0.0.0.0.0.0.0.1, ne_eqb _ 7 c.in_default.in_default-own.rest.0.0.0.0.0.0.0.0.0.0.0.0.0.0.0.1, ne_eqb _ 8 c.in_default.in_default-own.rest.0.0.0.0.0.0.0.0.0.0.0.0.0.0.1, ne_eqb _ 9 c.in_default.in_default-own.rest.0.0.0.0.0.0.0.0.0.0.0.0.0.1, ne_eqb _ 10 c.in_default.in_default-own.rest.0.0.0.0.0.0.0.0.0.0.0.0.1, ne_eqb _ 11 c.in_default.in_default-own.rest.0.0.0.0.0.0.0.0.0.0.0.1, ne_eqb _ 12 c.in_default.in_default-own.rest.0.0.0.0.0.0.0.0.0.0.1, ne_eqb _ 13 c.in_default.in_default-own.rest.0.0.0.0.0.0.0.0.0.1, ne_eqb _ 14 c.in_default.in_default-own.rest.0.0.0.0.0.0.0.0.1, ne_eqb _ 15 c.in_default.in_default-own.rest.0.0.0.0.0.0.0.1, ne_eqb _ 16 c.in_default.in_default-own.rest.0.0.0.0.0.0.1, ne_eqb _ 17 c.in_default.in_default-own.rest.0.0.0.0.0.1, ne_eqb _ 18 c.in_default.in_default-own.rest.0.0.0.0.1, ne_eqb _ 19 c.in_default.in_default-own.rest.0.0.0.1, ne_eqb _ 20 c.in_default.in_default-own.rest.0.0.1, ne_eqb _ 21 c.in_default.in_default-own.rest.0.1, ne_eqb _ 22 c.in_default.in_default-own.rest.1)
