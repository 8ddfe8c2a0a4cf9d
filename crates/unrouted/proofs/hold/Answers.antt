use Prim.Native.Nat.{ℕ}
use mathlib.Core.Path.{subst}
use Rattle.std.specs.Prelude.{unwrap_or}
use Rattle.records.specs.Records.{destination_address}
use Rattle.rows.specs.Lists.{insert_by}
use Rattle.rows.specs.Tables.{live, Holds}
use Rattle.tables.specs.Layouts.{destination_table}
use Rattle.unrouted.proofs.Lists.{enters}
use Rattle.unrouted.proofs.hold.Goals as goal

pub returns : goal.returns
returns c =
    rw c.unwrap_or.ensures
    (subst (λ (r : ℕ). Holds destination_table c.insert.new.w (unwrap_or c.insert.result c.args.k) (insert_by destination_address (record { address = c.args.destination; retries = r }) (live destination_table c.args.d.now c.args.k))) c.saturating_sub.ensures
    (enters c.args.k _ c.requires.held c.requires.k_bound c.insert.ensures))
