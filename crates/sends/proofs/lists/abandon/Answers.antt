use Rattle.sends.proofs.Values.{is-emptied}
use Rattle.sends.proofs.lists.abandon.Goals as goal

pub returns-clause-value : goal.returns-clause-value
returns-clause-value c =
    let h = c.abandon-x.ensures in
    is-emptied h
