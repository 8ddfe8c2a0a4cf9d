use Rattle.std.proofs.Common.{refl}
use Rattle.model.specs.Model.{model_of}
use Rattle.model.specs.Steps.Call.{Transmitted}
use Rattle.panel.proofs.Tellings.{told-few}
use Rattle.panel.proofs.transmitted.Goals as goal

pub heard-requires : goal.heard-requires
heard-requires g c =
    told-few (model_of c.args.g.sends) (Transmitted c.args.from c.args.id c.args.frame c.args.report c.args.clock 0) c.requires.model c.transmitted-x.ensures.value refl
