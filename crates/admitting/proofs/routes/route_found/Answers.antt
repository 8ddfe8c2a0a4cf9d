use mathlib.Core.Path.{◌≡◌}
use lib.ListN.{length}
use Rattle.admitting.proofs.Routings.{routable, does-route}
use borrow.Author.Rules.{rules}
use Rattle.admitting.proofs.routes.route_found.Goals as goal

pub returns : goal.returns
returns c = does-route c.requires.sound_tables c.sweep-t.ensures c.remove-held.ensures c.route_all-x.ensures

pub route_all-x-requires-clause-routable : goal.route_all-x-requires-clause-routable
route_all-x-requires-clause-routable c =
    let t = c.sweep-t.ensures in
    let l : length c.args.results ≡ 16 = search (c.well_formed.1.1.1.1.1.1.1.1.1.0, rules) in
    routable c.args.clock c.args.destination c.requires.sound_tables.unrouted t c.requires.n_value l c.requires.results_bound
