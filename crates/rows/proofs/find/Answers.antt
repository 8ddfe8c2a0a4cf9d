use Rattle.std.specs.Prelude.{None}
use mathlib.Core.Path.{sym, ap₂, ◌≡◌}
use Rattle.rows.specs.Lists.{spot_at, find_by}
use Rattle.rows.specs.Rows.{first_word, rows_from, itself}
use Rattle.rows.proofs.Search.{search-end, search-hit, search-miss}
use Rattle.rows.proofs.find.Goals as goal
use Rattle.rows.proofs.find.Goals.{else-at-n-via-then-at-n+else-w-at, else-at-n-via-else-at-n}

pub returns-then-w-at : goal.returns-then-w-at
returns-then-w-at c =
    let p = c.below-at.ensures in
    sym (ap₂ spot_at (search-hit c.requires c.args.key _ p c.if-at-n.true c.if-w-at.true) (sym p))

pub returns-else-at-n : goal.returns-else-at-n
returns-else-at-n c =
    let p = c.below-at.ensures in
    let missed : find_by first_word c.args.key (rows_from c.args.width itself c.args.n c.args.w.now) ≡ None =
    elim c.else-at-n.branch [
      | else-at-n-via-then-at-n+else-w-at w ↦ search-miss c.requires c.args.key _ p w.if-at-n.true w.if-w-at.false
      | else-at-n-via-else-at-n w ↦ search-end c.requires c.args.key _ p w.if-at-n.false
    ] in
    sym (ap₂ spot_at missed (sym p))
