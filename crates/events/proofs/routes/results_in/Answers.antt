-- A body too short for them, or the sixteen.
use borrow.Author.Tests.{lt-ltb, le-ltb}
use Rattle.events.specs.Routes.{results_in}
use Rattle.events.proofs.routes.results_in.Goals as goal

pub returns-then-b-lt235 : goal.returns-then-b-lt235
unfolding results_in
returns-then-b-lt235 c = rw (lt-ltb _ _ c.if-b-lt235.true)

pub returns : goal.returns
unfolding results_in
returns c = rw (le-ltb _ _ c.if-b-lt235.false) c.route_results.ensures
