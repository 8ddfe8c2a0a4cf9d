use Rattle.std.proofs.Common.{rules}
use Rattle.tables.specs.Layouts.{unicast_words, unicast_layout}
use Rattle.tables.proofs.Writes.{filled}
use Rattle.tables.proofs.UnicastRows.{back}
use Rattle.tables.proofs.unicast_rows.UnicastRecord.write.Goals as goal

pub returns-clause-words : goal.returns-clause-words
unfolding unicast_layout
returns-clause-words c =
    rw (c.from.ensures, c.from-2.ensures, c.from-3.ensures, c.stage_time.ensures, c.address_word.ensures.is, c.tags_of.ensures.is, c.opt_word.ensures.is, c.confirm_words-two.ensures.is) (filled c.args.row.now (unicast_words c.args.self) c.requires)

pub returns-clause-back : goal.returns-clause-back
returns-clause-back c = back c.args.self (search rules) (search rules) (search rules) c.tags_of.ensures.hop c.tags_of.ensures.attempts c.address_word.ensures c.opt_word.ensures
    c.confirm_words-two.ensures.back
