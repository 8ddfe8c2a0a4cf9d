use Rattle.model.proofs.Sounds.{fail-sound}
use Rattle.sends.proofs.Values.{is-answered, leaves-sound}
use Rattle.sends.proofs.fail_unrouted.Goals as goal

pub returns-clause-value : goal.returns-clause-value
returns-clause-value c =
    let h = c.fail_unrouted-x.ensures in
    is-answered h c.answered.ensures

pub returns-clause-leaving : goal.returns-clause-leaving
returns-clause-leaving c =
    let h = c.fail_unrouted-x.ensures in
    leaves-sound h c.answered.ensures (fail-sound c.requires.model c.args.destination)
