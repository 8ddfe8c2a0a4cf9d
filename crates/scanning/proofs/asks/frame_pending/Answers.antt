use Rattle.rows.specs.Moves.{any_of}
use Rattle.sending.specs.Types.{Address}
use Rattle.sending.specs.Rules.{beside}
use Rattle.sending.proofs.Turns.{beside_none}
use Rattle.scanning.proofs.Scans.{sends}
use mathlib.Core.Path.{sym, ap, ◌∙◌}
use Rattle.scanning.proofs.asks.frame_pending.Goals as goal

pub returns-in-Absent : goal.returns-in-Absent
returns-in-Absent c =
    sym (ap (λ (a : Address). any_of (beside c.args.id a) (sends c.args.w.now c.args.n)) c.in-Absent.is
    ∙ beside_none c.args.id (sends c.args.w.now c.args.n))
