use mathlib.Core.Path.{ap, ◌∙◌}
use Rattle.std.proofs.Common.{rules}
use Rattle.std.specs.Slice.Iter.{iter_rest}
use Rattle.scanning.proofs.Maps.{mapped-is, short-is}
use Rattle.scanning.proofs.sets.mapped.Goals as goal

pub returns : goal.returns
returns c =
    short-is c.find.result c.map.result c.map.ensures.cases (λ x y e. search rules)
    ∙ mapped-is _ c.find.new.self c.args.x c.args.eui.now c.args.nwk.now (ap iter_rest c.zip.ensures.first ∙ c.iter.ensures.rest) c.zip.ensures.second.0 c.find.ensures.ran (λ y b k e. search rules)
