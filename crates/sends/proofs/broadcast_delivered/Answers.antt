use Rattle.model.proofs.Sounds.{delivered-sound}
use Rattle.sends.proofs.Values.{is-answered, leaves-sound}
use Rattle.sends.proofs.broadcast_delivered.Goals as goal

pub returns-clause-value : goal.returns-clause-value
returns-clause-value c =
    let h = c.broadcast_delivered-x.ensures in
    is-answered h c.answered.ensures

pub returns-clause-leaving : goal.returns-clause-leaving
returns-clause-leaving c =
    let h = c.broadcast_delivered-x.ensures in
    leaves-sound h c.answered.ensures (delivered-sound c.requires.model c.args.key)
