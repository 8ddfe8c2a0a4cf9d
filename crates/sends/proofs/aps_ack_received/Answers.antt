use Rattle.model.proofs.Sounds.{ack-sound}
use Rattle.sends.proofs.Values.{is-answered, leaves-sound}
use Rattle.sends.proofs.aps_ack_received.Goals as goal

pub returns-clause-value : goal.returns-clause-value
returns-clause-value c =
    let h = c.aps_ack_received-x.ensures in
    is-answered h c.answered.ensures

pub returns-clause-leaving : goal.returns-clause-leaving
returns-clause-leaving c =
    let h = c.aps_ack_received-x.ensures in
    leaves-sound h c.answered.ensures (ack-sound c.requires.model c.args.key)
