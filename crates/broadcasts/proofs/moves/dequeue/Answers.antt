use Rattle.broadcasts.proofs.Found.{missed-lent, found_lt, found-lent}
use Rattle.records.specs.Records.{broadcast_id}
use native.Mathlib.Omega.{arith}
use mathlib.Core.Path.{ap, ◌∙◌}
use Rattle.broadcasts.proofs.moves.dequeue.Goals as goal

pub load-u-requires : goal.load-u-requires
load-u-requires c = omega (arith, found_lt c.requires _ c.in_ok-i.ensures, c.requires.within)

pub returns-in_err-i : goal.returns-in_err-i
returns-in_err-i c = rw c.from_residual.ensures (missed-lent c.requires _ c.in_err-i.ensures)

pub returns : goal.returns
returns c = found-lent c.requires _ c.in_ok-i.ensures c.load-u.ensures c.dequeued.ensures c.store.ensures

pub store-requires-clause-stands : goal.store-requires-clause-stands
store-requires-clause-stands c = record { there = found_lt c.requires _ c.in_ok-i.ensures; same = ap broadcast_id c.dequeued.ensures ∙ ap broadcast_id c.load-u.ensures }
