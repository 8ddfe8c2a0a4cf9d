use Rattle.model.proofs.Sounds.{enqueue-unicast-sound}
use Rattle.sends.proofs.Values.{is-answered, leaves-sound}
use Rattle.sends.proofs.enqueue_unicast.Goals as goal

pub returns-clause-value : goal.returns-clause-value
returns-clause-value c =
    let h = c.enqueue_unicast-x.ensures in
    is-answered h c.answered.ensures

pub returns-clause-leaving : goal.returns-clause-leaving
returns-clause-leaving c =
    let h = c.enqueue_unicast-x.ensures in
    leaves-sound h c.answered.ensures (enqueue-unicast-sound c.requires.model c.args.settings c.args.u c.args.clock)
