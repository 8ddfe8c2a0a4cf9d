use native.Mathlib.Omega.{arith}
use mathlib.Core.Path.{◌≡◌, sym, ◌∙◌}
use mathlib.Core.Bool.{false}
use lib.ListN.{length}
use Rattle.std.proofs.Common.{length-take-le}
use Rattle.model.specs.Calls.{late}
use Rattle.doing.specs.Types.{NoPlace}
use Rattle.doing.proofs.Doings.{does-as, does-deny}
use Rattle.admitting.proofs.Routings.{left-few, route-full, route-goes}
use borrow.Author.Rules.{rules}
use Rattle.admitting.proofs.routes.route_unicasts.Goals as goal

pub slice_bounds-results-end : goal.slice_bounds-results-end
slice_bounds-results-end c =
    let l : length c.args.results ≡ 16 = search (c.well_formed.1.1.1.1.1.1.1.1.1.0, rules) in
    let few = left-few c.requires.unrouted c.args.clock c.args.destination (c.if-n-left_to.false ∙ c.left_to.ensures) in
    omega arith

pub slice_bounds-successes-end : goal.slice_bounds-successes-end
slice_bounds-successes-end c =
    let l : length c.args.results ≡ 16 = search (c.well_formed.1.1.1.1.1.1.1.1.1.0, rules) in
    let few = left-few c.requires.unrouted c.args.clock c.args.destination (c.if-n-left_to.false ∙ c.left_to.ensures) in
    sym (length-take-le c.args.n c.args.results (omega arith))

pub returns-then-c-successes : goal.returns-then-c-successes
returns-then-c-successes c =
    let e : late c.args.clock ≡ false = sym c.too_late.ensures ∙ c.if-too_late.false in
    let f = c.if-n-left_to.false ∙ c.left_to.ensures in
    let l : length c.args.results ≡ 16 = search (c.well_formed.1.1.1.1.1.1.1.1.1.0, rules) in
    let few = left-few c.requires.unrouted c.args.clock c.args.destination f in
    does-as (route-full c.requires c.args.s c.args.destination c.args.clock c.args.n c.args.results e f (omega arith) (omega (arith, c.successes.ensures, c.if-c-successes.true)))
    (does-deny c.requires NoPlace c.denied-then-c-successes.ensures)

pub returns : goal.returns
returns c =
    let e : late c.args.clock ≡ false = sym c.too_late.ensures ∙ c.if-too_late.false in
    let f = c.if-n-left_to.false ∙ c.left_to.ensures in
    let l : length c.args.results ≡ 16 = search (c.well_formed.1.1.1.1.1.1.1.1.1.0, rules) in
    let few = left-few c.requires.unrouted c.args.clock c.args.destination f in
    does-as (route-goes c.requires c.args.s c.args.destination c.args.clock c.args.n c.args.results e f (omega arith) (omega (arith, c.successes.ensures, c.if-c-successes.false)))
    c.route_found.ensures
