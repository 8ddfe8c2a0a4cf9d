use Rattle.std.proofs.Common.{rules}
use Rattle.std.proofs.lemmas.Fn.{always_returns_same}
use lib.Dec.{ltb}
use Rattle.scanning.proofs.Maps.{rises-is}
use Rattle.scanning.proofs.sets.rises.Goals as goal

pub returns : goal.returns
returns c =
    rises-is c.args.eui.now c.is_sorted_by.result (c.is_sorted_by.ensures.cases (λ x y. ltb x y) (always_returns_same _ _ _ (λ a r k e. search rules)))
