use Rattle.std.proofs.Common.{◌∙◌}
use Rattle.replay.proofs.Judged.{judged}
use Rattle.replay.proofs.judging.replays.Goals as goal

pub returns : goal.returns
returns c = c.agrees.ensures ∙ judged _ _ 4096 c.pattern-space.ensures c.requires c.run-n.ensures
