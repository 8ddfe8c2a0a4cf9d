-- The settings, as an event.
use mathlib.Core.Path.{ap}
use Rattle.events.specs.Signals.{settings_of}
use Rattle.events.specs.Types.{OnSettings}
use Rattle.events.proofs.signals.decode_settings.Goals as goal

pub returns : goal.returns
unfolding settings_of
returns c = ap OnSettings c.settings_in.ensures
