use mathlib.Core.Path.{ap₂}
use Rattle.events.specs.Signals.{pair_of}
use Rattle.events.specs.Types.{OnPair}
use Rattle.events.proofs.signals.decode_pair.Goals as goal

pub returns : goal.returns
unfolding pair_of
returns c = ap₂ OnPair c.u64_at-extended.ensures c.u16_at-short.ensures
