-- Barred, or put; then the answer.
use Rattle.exchange.proofs.Worlds.{turned_pair}
use Rattle.exchange.proofs.pair.Goals as goal

pub returns-in-Some : goal.returns-in-Some
returns-in-Some c =
    turned_pair c.requires.ready c.args.s c.put_pair.ensures c.in-Some.is c.answer_done-wrote.ensures
