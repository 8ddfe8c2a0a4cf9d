use Rattle.model.proofs.Sounds.{transmitted-sound}
use Rattle.sends.proofs.Values.{is-answered, leaves-sound}
use Rattle.sends.proofs.transmitted.Goals as goal

pub returns-clause-value : goal.returns-clause-value
returns-clause-value c =
    let h = c.transmitted-x.ensures in
    is-answered h c.answered.ensures

pub returns-clause-leaving : goal.returns-clause-leaving
returns-clause-leaving c =
    let h = c.transmitted-x.ensures in
    leaves-sound h c.answered.ensures (transmitted-sound c.requires.model c.args.from c.args.id c.args.frame c.args.x c.args.clock c.args.delay)
