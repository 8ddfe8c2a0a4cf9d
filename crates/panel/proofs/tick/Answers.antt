use Rattle.std.proofs.Common.{refl}
use Rattle.model.specs.Model.{model_of}
use Rattle.model.specs.Steps.Call.{Tick}
use Rattle.panel.proofs.Tellings.{told-few}
use Rattle.panel.proofs.tick.Goals as goal

pub heard-requires : goal.heard-requires
heard-requires g c = told-few (model_of c.args.g.sends) (Tick c.args.clock) c.requires.model c.tick-x.ensures.value refl
