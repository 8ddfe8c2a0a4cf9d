use mathlib.Core.Path.{◌∙◌}
use borrow.Author.Tests.{lt-ltb, le-ltb}
use Rattle.events.specs.Routes.{route_of}
use Rattle.events.specs.Types.{OnRoute}
use Rattle.events.proofs.routes.decode_route.Goals as goal

pub returns-then-count-gt16 : goal.returns-then-count-gt16
unfolding route_of
returns-then-count-gt16 c = let e = c.from-count.ensures ∙ c.byte_at.ensures in
    rw (← e, lt-ltb _ _ c.if-count-gt16.true)

pub returns-then-entries_right : goal.returns-then-entries_right
unfolding route_of
returns-then-entries_right c = let e = c.from-count.ensures ∙ c.byte_at.ensures in
    rw (← e, le-ltb _ _ c.if-count-gt16.false, ← c.entries_right.ensures, c.if-entries_right.true) (λ k. OnRoute (c.u64_at-clock.ensures k) (c.u16_at-destination.ensures k) c.from-count.result)

pub returns-else-entries_right : goal.returns-else-entries_right
unfolding route_of
returns-else-entries_right c = let e = c.from-count.ensures ∙ c.byte_at.ensures in
    rw (← e, le-ltb _ _ c.if-count-gt16.false, ← c.entries_right.ensures, c.if-entries_right.false)
