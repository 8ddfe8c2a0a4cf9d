-- Unrouted sends in words: a place says its record, and a record written says itself again.
use Prim.Native.Nat.{ℕ, ◌+◌, ◌*◌, ◌/◌, ◌%◌, ◌<◌}
use native.Mathlib.Nat.{mod-eq_of_lt}
use native.Mathlib.Omega.{arith}
use mathlib.Core.Path.{◌≡◌, ap, ◌∙◌}
use mathlib.Core.List.{List}
use lib.ListN.{get_or}
use Rattle.records.specs.Records.{blank_unrouted}
use Rattle.records.specs.Priorities.{rank_of}
use Rattle.records.specs.declared.Unrouted.{Unrouted}
use Rattle.codes.specs.Codes.{priority_from, confirm_from, confirm_first, confirm_second}
use Rattle.rows.specs.Tables.{rows_of}
use Rattle.tables.specs.Layouts.{unrouted_from, unrouted_layout, unrouted_table}
use Rattle.rows.proofs.Search.{first-at, next-at}
use Rattle.codes.proofs.Backs.{priority-back, rank-low}
use Rattle.rows.proofs.Held.{row_of}

-- what the seven words of a place say is its record
pub row : (ws : List ℕ) (i : ℕ) → i < 16
    → unrouted_from (get_or ws (i * 7) 0) (get_or ws (i * 7 + 1) 0) (get_or ws (i * 7 + 2) 0) (get_or ws (i * 7 + 3) 0) (get_or ws (i * 7 + 4) 0) (get_or ws (i * 7 + 5) 0) (get_or ws (i * 7 + 6) 0)
    ≡ get_or (rows_of unrouted_table ws) i blank_unrouted
unfolding unrouted_layout
row ws i h =
    rw (
      first-at 7 ws (i * 7) (omega arith),
      next-at 7 ws (i * 7) 1 (omega arith),
      next-at 7 ws (i * 7) 2 (omega arith),
      next-at 7 ws (i * 7) 3 (omega arith),
      next-at 7 ws (i * 7) 4 (omega arith),
      next-at 7 ws (i * 7) 5 (omega arith),
      next-at 7 ws (i * 7) 6 (omega arith),
    )
    (row_of unrouted_table ws i h)

-- two numbers in one word
module _ (p d : ℕ) (hp : p < 8) (hd : d < 65536) where
  pair0 : (p + 8 * d) % 8 ≡ p
  pair0 = omega arith

  pair1 : (p + 8 * d) / 8 % 65536 ≡ d
  pair1 = omega arith

pub back : (u : Unrouted) → u.id < 4294967296 → u.frame < 4294967296 → u.waiter < 4294967296 → u.destination < 65536
    → confirm_from (confirm_first u.confirm) (confirm_second u.confirm) ≡ u.confirm → unrouted_table.layout.record_of (unrouted_table.layout.words_of u) ≡ u
unfolding unrouted_layout
back u hi hf hw hd c =
    let ep = ap priority_from (pair0 (rank_of u.priority) u.destination (rank-low u.priority) hd) ∙ priority-back u.priority in
    let ed = pair1 (rank_of u.priority) u.destination (rank-low u.priority) hd in
    λ k. record {
      id = mod-eq_of_lt hi k;
      frame = mod-eq_of_lt hf k;
      waiter = mod-eq_of_lt hw k;
      priority = ep k;
      confirm = c k;
      destination = ed k;
      deadline = u.deadline;
    }
