use native.Mathlib.Omega.{arith}
use Rattle.records.specs.Records.{unicast_entry}
use Rattle.lent.proofs.Listings.{list-turn, list-end}
use Rattle.lent.proofs.lists.list_unicasts.Goals as goal

pub loop-i-preserved : goal.loop-i-preserved
loop-i-preserved c =
    let at = c.loop-i in
    list-turn unicast_entry c.requires.held c.args.at c.args.list.now at.i _ c.load-u.result c.from.result (omega arith) c.load-u.ensures c.from.ensures c.list_one.ensures at.invariant

pub returns : goal.returns
returns c = list-end unicast_entry c.requires.held c.args.at c.loop-i.i (omega arith) c.loop-i.invariant
