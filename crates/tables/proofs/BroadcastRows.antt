-- Broadcasts in words: a place says its record, and a record written says itself again.
use Prim.Native.Nat.{ℕ, ◌+◌, ◌*◌, ◌/◌, ◌%◌, ◌<◌}
use native.Mathlib.Nat.{mod-eq_of_lt}
use native.Mathlib.Omega.{arith}
use mathlib.Core.Path.{◌≡◌, ap, ap₂, ◌∙◌}
use mathlib.Core.List.{List}
use lib.ListN.{get_or}
use Rattle.records.specs.Records.{blank_broadcast}
use Rattle.records.specs.Priorities.{rank_of}
use Rattle.records.specs.declared.Broadcast.{Broadcast}
use Rattle.records.specs.Pick.{bit}
use Rattle.codes.specs.Codes.{Coded, CodedSchedule, opt16_word, opt16_from, priority_from, flag, copy_tag, copy_from, schedule_tag, schedule_copies, schedule_what, schedule_next, schedule_from}
use Rattle.rows.specs.Tables.{rows_of}
use Rattle.tables.specs.Layouts.{broadcast_from, broadcast_layout, broadcast_table}
use Rattle.rows.proofs.Search.{first-at, next-at}
use Rattle.codes.proofs.Backs.{priority-back, rank-low, flag-back, bit-low, copy-back, copy-low, schedule-low}
use Rattle.rows.proofs.Held.{row_of}

-- what the seven words of a place say is its record
pub row : (ws : List ℕ) (i : ℕ) → i < 16
    → broadcast_from (get_or ws (i * 7) 0) (get_or ws (i * 7 + 1) 0) (get_or ws (i * 7 + 2) 0) (get_or ws (i * 7 + 3) 0) (get_or ws (i * 7 + 4) 0) (get_or ws (i * 7 + 5) 0) (get_or ws (i * 7 + 6) 0)
    ≡ get_or (rows_of broadcast_table ws) i blank_broadcast
unfolding broadcast_layout
row ws i h =
    rw (
      first-at 7 ws (i * 7) (omega arith),
      next-at 7 ws (i * 7) 1 (omega arith),
      next-at 7 ws (i * 7) 2 (omega arith),
      next-at 7 ws (i * 7) 3 (omega arith),
      next-at 7 ws (i * 7) 4 (omega arith),
      next-at 7 ws (i * 7) 5 (omega arith),
      next-at 7 ws (i * 7) 6 (omega arith),
    )
    (row_of broadcast_table ws i h)

-- seven numbers in one word
module _ (p c a q k n e : ℕ) (hp : p < 8) (hc : c < 4) (ha : a < 2) (hq : q < 2) (hk : k < 4) (hn : n < 256) (he : e < 131072) where
  abbrev seven : ℕ
  seven = p + 8 * (c + 4 * (a + 2 * (q + 2 * (k + 4 * (n + 256 * e)))))

  seven0 : seven % 8 ≡ p
  seven0 = omega arith

  seven1 : seven / 8 % 4 ≡ c
  seven1 = omega arith

  seven2 : seven / 32 % 2 ≡ a
  seven2 = omega arith

  seven3 : seven / 64 % 2 ≡ q
  seven3 = omega arith

  seven4 : seven / 128 % 4 ≡ k
  seven4 = omega arith

  seven5 : seven / 512 % 256 ≡ n
  seven5 = omega arith

  seven6 : seven / 131072 % 131072 ≡ e
  seven6 = omega arith

pub back : (b : Broadcast) {wr er : ℕ} → b.id < 4294967296 → b.frame < 4294967296 → b.waiter < 4294967296 → CodedSchedule b.schedule wr
    → Coded opt16_word opt16_from 131072 b.last_error er → broadcast_table.layout.record_of (broadcast_table.layout.words_of b) ≡ b
unfolding broadcast_layout
back b hi hf hw s o =
    let p : ℕ = rank_of b.priority in
    let c : ℕ = copy_tag b.copy in
    let a : ℕ = bit b.handed_off in
    let q : ℕ = bit b.quorum_heard in
    let k : ℕ = schedule_tag b.schedule in
    let n : ℕ = schedule_copies b.schedule in
    let e : ℕ = opt16_word b.last_error in
    let hp : p < 8 = rank-low b.priority in
    let hc : c < 4 = copy-low b.copy in
    let ha : a < 2 = bit-low b.handed_off in
    let hq : q < 2 = bit-low b.quorum_heard in
    let hk : k < 4 = schedule-low b.schedule in
    let hn : n < 256 = s.low in
    let he : e < 131072 = o.low in
    let ep = ap priority_from (seven0 p c a q k n e hp hc ha hq hk hn he) ∙ priority-back b.priority in
    let ec = ap copy_from (seven1 p c a q k n e hp hc ha hq hk hn he) ∙ copy-back b.copy in
    let ea = ap flag (seven2 p c a q k n e hp hc ha hq hk hn he) ∙ flag-back b.handed_off in
    let eq = ap flag (seven3 p c a q k n e hp hc ha hq hk hn he) ∙ flag-back b.quorum_heard in
    let es =
    ap₂ (λ (x y : ℕ). schedule_from x y (schedule_what b.schedule) (schedule_next b.schedule)) (seven4 p c a q k n e hp hc ha hq hk hn he)
    (seven5 p c a q k n e hp hc ha hq hk hn he) ∙ s.back in
    let ee = ap opt16_from (seven6 p c a q k n e hp hc ha hq hk hn he) ∙ o.back in
    λ i. record {
      id = mod-eq_of_lt hi i;
      frame = mod-eq_of_lt hf i;
      waiter = mod-eq_of_lt hw i;
      priority = ep i;
      schedule = es i;
      copy = ec i;
      handed_off = ea i;
      quorum_heard = eq i;
      last_error = ee i;
      deadline = b.deadline;
    }
