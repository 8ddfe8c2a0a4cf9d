use Rattle.std.proofs.Common.{rules}
use Rattle.tables.specs.Layouts.{unrouted_words, unrouted_layout}
use Rattle.tables.proofs.Writes.{filled}
use Rattle.tables.proofs.UnroutedRows.{back}
use Rattle.tables.proofs.unrouted_rows.UnroutedRecord.write.Goals as goal

pub returns-clause-words : goal.returns-clause-words
unfolding unrouted_layout
returns-clause-words c =
    rw (c.from-rank.ensures, c.from.ensures, c.from-2.ensures, c.from-3.ensures, c.from-4.ensures, c.from-5.ensures, c.confirm_words-two.ensures.is) (filled c.args.row.now (unrouted_words c.args.self) c.requires)

pub returns-clause-back : goal.returns-clause-back
returns-clause-back c = back c.args.self (search rules) (search rules) (search rules) (search rules) c.confirm_words-two.ensures.back
