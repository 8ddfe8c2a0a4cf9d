use Rattle.unrouted.proofs.Lists.{enters}
use Rattle.unrouted.proofs.enter.Goals as goal

pub returns : goal.returns
returns c = rw c.unwrap_or.ensures (enters _ _ c.requires.held c.requires.n_bound c.insert.ensures)
