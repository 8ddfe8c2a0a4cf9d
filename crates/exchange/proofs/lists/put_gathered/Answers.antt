-- List after list, then 129: each begins where the one before it ends.
use native.Mathlib.Omega.{arith}
use mathlib.Core.List.{[], ◌∷◌}
use Rattle.answers.proofs.Lists.{written-items, written-more}
use Rattle.listings.specs.Listings.{short_items, long_items, destination_items, key_items}
use Rattle.exchange.specs.Types.{Done}
use Rattle.exchange.proofs.Listings.{first_short, rest-fits, from_keys, from_shorts, from_longs}
use Rattle.exchange.proofs.lists.put_gathered.Goals as goal

-- In each answer d, k and s say that what follows fits behind the destinations, the keys and the short set.
pub put_done-requires : goal.put_done-requires
put_done-requires c =
    let a = c.args in
    let d = rest-fits (destination_items a.ds.now a.n.destinations) (from_keys a.ks.now a.ss.now a.ls.now a.n) c.requires.n_in_bounds c.put_destinations-k.ensures in
    let k = rest-fits (key_items a.ks.now a.n.keys) (from_shorts a.ss.now a.ls.now a.n) d c.put_keys-s.ensures in
    let s = rest-fits (short_items a.ss.now a.n.shorts) (from_longs a.ls.now a.n) k c.put_shorts-l.ensures in
    rest-fits (long_items a.ls.now a.n.longs) (Done ∷ []) s c.put_longs-last.ensures

pub returns : goal.returns
returns c =
    let a = c.args in
    written-items (destination_items a.ds.now a.n.destinations) (from_keys a.ks.now a.ss.now a.ls.now a.n) c.put_destinations-k.ensures
    (written-items (key_items a.ks.now a.n.keys) (from_shorts a.ss.now a.ls.now a.n) c.put_keys-s.ensures
    (written-items (short_items a.ss.now a.n.shorts) (from_longs a.ls.now a.n) c.put_shorts-l.ensures
    (written-more (long_items a.ls.now a.n.longs) Done c.put_longs-last.ensures c.put_done.ensures)))

pub put_destinations-k-requires-clause-n_in_bounds_2 : goal.put_destinations-k-requires-clause-n_in_bounds_2
put_destinations-k-requires-clause-n_in_bounds_2 c =
    let a = c.args in
    omega (arith, first_short (destination_items a.ds.now a.n.destinations) (from_keys a.ks.now a.ss.now a.ls.now a.n), c.requires.n_in_bounds)

pub put_keys-s-requires-clause-n_in_bounds_2 : goal.put_keys-s-requires-clause-n_in_bounds_2
put_keys-s-requires-clause-n_in_bounds_2 c =
    let a = c.args in
    let d = rest-fits (destination_items a.ds.now a.n.destinations) (from_keys a.ks.now a.ss.now a.ls.now a.n) c.requires.n_in_bounds c.put_destinations-k.ensures in
    omega (arith, first_short (key_items a.ks.now a.n.keys) (from_shorts a.ss.now a.ls.now a.n), d)

pub put_shorts-l-requires-clause-n_in_bounds_2 : goal.put_shorts-l-requires-clause-n_in_bounds_2
put_shorts-l-requires-clause-n_in_bounds_2 c =
    let a = c.args in
    let d = rest-fits (destination_items a.ds.now a.n.destinations) (from_keys a.ks.now a.ss.now a.ls.now a.n) c.requires.n_in_bounds c.put_destinations-k.ensures in
    let k = rest-fits (key_items a.ks.now a.n.keys) (from_shorts a.ss.now a.ls.now a.n) d c.put_keys-s.ensures in
    omega (arith, first_short (short_items a.ss.now a.n.shorts) (from_longs a.ls.now a.n), k)

pub put_longs-last-requires-clause-n_in_bounds_2 : goal.put_longs-last-requires-clause-n_in_bounds_2
put_longs-last-requires-clause-n_in_bounds_2 c =
    let a = c.args in
    let d = rest-fits (destination_items a.ds.now a.n.destinations) (from_keys a.ks.now a.ss.now a.ls.now a.n) c.requires.n_in_bounds c.put_destinations-k.ensures in
    let k = rest-fits (key_items a.ks.now a.n.keys) (from_shorts a.ss.now a.ls.now a.n) d c.put_keys-s.ensures in
    let s = rest-fits (short_items a.ss.now a.n.shorts) (from_longs a.ls.now a.n) k c.put_shorts-l.ensures in
    omega (arith, first_short (long_items a.ls.now a.n.longs) (Done ∷ []), s)
