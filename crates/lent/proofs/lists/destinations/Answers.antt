use Prim.Native.Nat.{◌+◌}
use native.Mathlib.Omega.{arith}
use mathlib.Core.List.{[], ◌∷◌, map}
use lib.ListN.{drop}
use Rattle.records.specs.Records.{destination_address}
use Rattle.rows.specs.Tables.{live}
use Rattle.tables.specs.Layouts.{destination_table}
use Rattle.lent.proofs.Fillings.{fill_one, fill-turn, left-cons}
use Rattle.lent.proofs.lists.destinations.Goals as goal

pub loop-i-preserved : goal.loop-i-preserved
loop-i-preserved c =
    let at = c.loop-i in
    let x = c.destination_at.result in
    fill-turn at.invariant (x ∷ []) (map destination_address (drop (at.i + 1) (live destination_table c.args.d.now c.args.k)))
    (left-cons c.requires destination_address at.i (omega arith) c.destination_at.ensures) (fill_one at.out at.i x)
