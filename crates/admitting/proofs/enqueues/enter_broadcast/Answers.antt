use Rattle.rows.proofs.Promises.{never-full}
use Rattle.admitting.proofs.enqueues.enter_broadcast.Goals as goal

pub returns-in-Full : goal.returns-in-Full
returns-in-Full c = absurd (never-full c.requires.held c.requires.n_bound c.insert.ensures c.in-Full.is)
