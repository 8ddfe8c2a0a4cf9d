-- What the code's tests of heads say of the broadcasts that they were read from. Assumes nothing.
use Rattle.std.specs.Prelude.{Some}
use Prim.Native.Nat.{ℕ, ◌+◌, ◌≤◌, ◌<◌}
use native.Mathlib.Omega.{arith}
use mathlib.Core.Path.{◌≡◌, sym, ap, ◌∙◌}
use mathlib.Core.Bool.{Bool}
use mathlib.Core.List.{List, []}
use lib.ListN.{length, drop, get_or}
use Rattle.records.specs.Records.{blank_broadcast}
use Rattle.rows.specs.Tables.{rows_of, live, Held}
use Rattle.rows.specs.Moves.{first_at}
use Rattle.rows.specs.declared.Turn.TheVariants.{Keeps}
use Rattle.rows.proofs.Promises.{held-length, length-rows_of, live-cons, live-done, first_found}
use Rattle.tables.specs.Layouts.{broadcast_table, broadcast_head}
use Rattle.casting.specs.Types.{Broadcast, BroadcastHead, QuorumKey, Schedule}
use Rattle.casting.specs.Rules.{keyed_by, keyed, stirs_head, awaited_head, listed, awaited_of}

abbrev pub row_at : List ℕ → ℕ → Broadcast
row_at ws i = get_or (rows_of broadcast_table ws) i blank_broadcast

-- what was found by a scan is live
pub scanned-lt : {ws : List ℕ} {n i : ℕ} (h : Held broadcast_table ws n) (q : Broadcast → Bool) → Some i ≡ first_at q (live broadcast_table ws n) → i < n
scanned-lt {ws} {n} {i} h q e = omega (arith, (first_found q Keeps blank_broadcast (live broadcast_table ws n) i (sym e)).there, held-length h)

module _ (b : Broadcast) {h : BroadcastHead} {r x : Bool} (is : h ≡ broadcast_head b) where
  pub stirs-tested : (now : ℕ) → r ≡ stirs_head now h → r ≡ x → stirs_head now (broadcast_head b) ≡ x
  stirs-tested now e t = sym (e ∙ ap (stirs_head now) is) ∙ t

-- the keys that are awaited, place by place
module _ {ws : List ℕ} {n : ℕ} (h : Held broadcast_table ws n) where
  room : n ≤ length (rows_of broadcast_table ws)
  room = omega (arith, length-rows_of broadcast_table ws, h.within)

  pub awaited-turn : (i : ℕ) → i < n
      → awaited_of (drop i (live broadcast_table ws n)) ≡ listed (awaited_head (broadcast_head (row_at ws i))) (awaited_of (drop (i + 1) (live broadcast_table ws n)))
  awaited-turn i l = ap awaited_of (live-cons (rows_of broadcast_table ws) n i blank_broadcast l room)

  pub awaited-end : (i : ℕ) → n ≤ i → awaited_of (drop i (live broadcast_table ws n)) ≡ []
  awaited-end i l = ap awaited_of (live-done (rows_of broadcast_table ws) n i l room)
