use mathlib.Core.Path.{sym, ◌∙◌}
use Rattle.rows.proofs.Search.{search-lt}
use Rattle.rows.proofs.Answers.{taken-some}
use Rattle.rows.proofs.leave.Goals as goal

pub close-requires : goal.close-requires
close-requires c =
    let e = sym c.in-Ok.is ∙ c.find.ensures in
    (search-lt c.requires c.args.key _ (taken-some _ _ _ e), c.requires.there)
