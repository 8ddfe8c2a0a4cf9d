use mathlib.Core.Path.{sym, ap}
use Rattle.answers.specs.Items.{action_bytes}
use Rattle.answers.proofs.Writings.{written_as}
use Rattle.answers.proofs.put_action.Goals as goal

pub returns-in-Settled : goal.returns-in-Settled
returns-in-Settled c = written_as (ap action_bytes (sym c.in-Settled.is)) c.put_settled.ensures
