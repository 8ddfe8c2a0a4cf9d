use Rattle.rows.specs.Moves.{first_at, place_from}
use lib.ListN.{drop}
use Rattle.sending.specs.Rules.{awaits}
use Rattle.scanning.proofs.Scans.{sends}
use mathlib.Core.Path.{◌≡◌}
use Rattle.scanning.proofs.asks.first_awaited.Given as goal

abbrev pub invariant-loop-k : goal.invariant-loop-k
invariant-loop-k l =
    place_from (awaits l.eui l.nwk l.clock) l.k (drop l.k (sends l.w l.n)) ≡ first_at (awaits l.eui l.nwk l.clock) (sends l.w l.n)
