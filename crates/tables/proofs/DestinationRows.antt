-- Held destinations in words: a place says its record, and a record written says itself again.
use Prim.Native.Nat.{ℕ, ◌+◌, ◌*◌, ◌<◌}
use native.Mathlib.Nat.{mod-eq_of_lt}
use native.Mathlib.Omega.{arith}
use mathlib.Core.Path.{◌≡◌}
use mathlib.Core.List.{List}
use lib.ListN.{get_or}
use Rattle.records.specs.Records.{blank_destination}
use Rattle.records.specs.declared.Destination.{Destination}
use Rattle.rows.specs.Tables.{rows_of}
use Rattle.tables.specs.Layouts.{destination_from, destination_layout, destination_table}
use Rattle.rows.proofs.Search.{first-at, next-at}
use Rattle.rows.proofs.Held.{row_of}

-- what the two words of a place say is its record
pub row : (ws : List ℕ) (i : ℕ) → i < 16 → destination_from (get_or ws (i * 2) 0) (get_or ws (i * 2 + 1) 0) ≡ get_or (rows_of destination_table ws) i blank_destination
unfolding destination_layout
row ws i h = rw (first-at 2 ws (i * 2) (omega arith), next-at 2 ws (i * 2) 1 (omega arith)) (row_of destination_table ws i h)

pub back : (d : Destination) → d.address < 65536 → d.retries < 256 → destination_table.layout.record_of (destination_table.layout.words_of d) ≡ d
unfolding destination_layout
back d ha hr = λ k. record { address = mod-eq_of_lt ha k; retries = mod-eq_of_lt hr k }
