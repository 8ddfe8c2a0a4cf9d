use Rattle.model.proofs.Sounds.{route-sound}
use Rattle.sends.proofs.Values.{is-answered, leaves-sound}
use Rattle.sends.proofs.route_unicasts.Goals as goal

pub returns-clause-value : goal.returns-clause-value
returns-clause-value c =
    let h = c.route_unicasts-x.ensures in
    is-answered h c.answered.ensures

pub returns-clause-leaving : goal.returns-clause-leaving
returns-clause-leaving c =
    let h = c.route_unicasts-x.ensures in
    leaves-sound h c.answered.ensures (route-sound c.requires.model c.args.settings c.args.destination c.args.clock c.args.n c.args.results)
