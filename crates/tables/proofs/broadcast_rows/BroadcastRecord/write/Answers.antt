use Rattle.std.proofs.Common.{rules}
use Rattle.tables.specs.Layouts.{broadcast_words, broadcast_layout}
use Rattle.tables.proofs.Writes.{filled}
use Rattle.tables.proofs.BroadcastRows.{back}
use Rattle.tables.proofs.broadcast_rows.BroadcastRecord.write.Goals as goal

pub returns-clause-words : goal.returns-clause-words
unfolding broadcast_layout
returns-clause-words c =
    rw (c.from.ensures, c.from-2.ensures, c.from-3.ensures, c.schedule_next.ensures, c.schedule_what.ensures.is, c.tags_of.ensures.is) (filled c.args.row.now (broadcast_words c.args.self) c.requires)

pub returns-clause-back : goal.returns-clause-back
returns-clause-back c = back c.args.self (search rules) (search rules) (search rules) c.schedule_what.ensures c.tags_of.ensures.last
