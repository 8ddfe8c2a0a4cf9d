use Rattle.std.proofs.Common.{rules}
use Rattle.tables.specs.Layouts.{destination_words, destination_layout}
use Rattle.tables.proofs.Writes.{filled}
use Rattle.tables.proofs.DestinationRows.{back}
use Rattle.tables.proofs.destination_rows.DestinationRecord.write.Goals as goal

pub returns-clause-words : goal.returns-clause-words
unfolding destination_layout
returns-clause-words c =
    rw (c.from.ensures, c.from-2.ensures) (filled c.args.row.now (destination_words c.args.self) c.requires)

pub returns-clause-back : goal.returns-clause-back
returns-clause-back c = back c.args.self (search rules) (search rules)
