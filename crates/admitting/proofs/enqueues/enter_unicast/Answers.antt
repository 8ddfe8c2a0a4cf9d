use Rattle.rows.proofs.Promises.{never-full}
use Rattle.admitting.proofs.enqueues.enter_unicast.Goals as goal

pub returns-in-None : goal.returns-in-None
returns-in-None c = absurd (never-full c.requires.held c.requires.n_bound c.insert.ensures c.in-None.is)
