use mathlib.Core.Path.{ap, ◌∙◌}
use Rattle.events.specs.Signals.{awaiting_event, has_awaiting_of}
use Rattle.events.proofs.signals.decode_has_awaiting.Goals as goal

pub returns : goal.returns
unfolding has_awaiting_of
returns c = c.awaiting_by.ensures ∙ ap awaiting_event c.address_at.ensures
