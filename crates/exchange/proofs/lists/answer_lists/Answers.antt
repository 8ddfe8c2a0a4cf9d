-- The gathered lists have the bytes of the answers; they fit or they do not.
use native.Mathlib.Omega.{arith}
use mathlib.Core.Path.{refl}
use lib.ListN.{take}
use Rattle.exchange.proofs.Listings.{gathered-says, says_nothing, says_all}
use Rattle.exchange.proofs.lists.answer_lists.Goals as goal

pub gathered_length-long-requires : goal.gathered_length-long-requires
gathered_length-long-requires c =
    let g = gathered-says {es = take c.args.pairs c.args.eui.now} {ns = take c.args.pairs c.args.nwk.now} c.requires.held c.requires.held_2 c.requires.held_3 c.gather-n.ensures refl refl refl refl in
    g.roomy.few

pub returns-then-out-at : goal.returns-then-out-at
returns-then-out-at c =
    let g = gathered-says {es = take c.args.pairs c.args.eui.now} {ns = take c.args.pairs c.args.nwk.now} c.requires.held c.requires.held_2 c.requires.held_3 c.gather-n.ensures refl refl refl refl in
    says_nothing g c.requires.at_in_bounds (omega (arith, c.gathered_length-long.ensures, c.if-out-at.true))

pub returns : goal.returns
returns c =
    let g = gathered-says {es = take c.args.pairs c.args.eui.now} {ns = take c.args.pairs c.args.nwk.now} c.requires.held c.requires.held_2 c.requires.held_3 c.gather-n.ensures refl refl refl refl in
    says_all g c.requires.at_in_bounds (omega (arith, c.gathered_length-long.ensures, c.if-out-at.false)) c.put_gathered.ensures

pub put_gathered-requires-clause-roomy : goal.put_gathered-requires-clause-roomy
put_gathered-requires-clause-roomy c =
    let g = gathered-says {es = take c.args.pairs c.args.eui.now} {ns = take c.args.pairs c.args.nwk.now} c.requires.held c.requires.held_2 c.requires.held_3 c.gather-n.ensures refl refl refl refl in
    g.roomy

pub put_gathered-requires-clause-n_in_bounds : goal.put_gathered-requires-clause-n_in_bounds
put_gathered-requires-clause-n_in_bounds c =
    let g = gathered-says {es = take c.args.pairs c.args.eui.now} {ns = take c.args.pairs c.args.nwk.now} c.requires.held c.requires.held_2 c.requires.held_3 c.gather-n.ensures refl refl refl refl in
    omega (arith, g.long, c.gathered_length-long.ensures, c.if-out-at.false, c.requires.at_in_bounds)
