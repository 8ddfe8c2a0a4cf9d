use Rattle.codes.proofs.Backs.{coded-none}
use Rattle.codes.proofs.opt_word.Goals as goal

pub returns-in-None : goal.returns-in-None
returns-in-None g c = rw c.in-None.is (coded-none g.T.Narrow.number g.T.Narrow.value g.T.Narrow.size g.met.T.Narrow.some)
