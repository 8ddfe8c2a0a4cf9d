use mathlib.Core.Path.{ap, ◌∙◌}
use mathlib.Core.List.{List}
use lib.ListN.{set}
use Rattle.listings.proofs.Inserts.{insert-is}
use Rattle.listings.proofs.maps.insert.Goals as goal

pub returns : goal.returns
returns g c = let a = c.args in
    ap (λ (l : List _). set l a.p a.x) c.copy_within.ensures.after ∙ insert-is a.row.now a.n a.p a.x c.requires.p_le_n c.requires.room
