-- Unicasts in words: a place says its record, and a record written says itself again.
use Prim.Native.Nat.{ℕ, ◌+◌, ◌*◌, ◌/◌, ◌%◌, ◌<◌}
use native.Mathlib.Nat.{mod-eq_of_lt}
use native.Mathlib.Omega.{arith}
use mathlib.Core.Path.{◌≡◌, ap, ◌∙◌}
use mathlib.Core.List.{List}
use lib.ListN.{get_or}
use Rattle.records.specs.Records.{blank_unicast}
use Rattle.records.specs.Priorities.{rank_of}
use Rattle.records.specs.declared.Unicast.{Unicast}
use Rattle.codes.specs.Codes.{Coded, CodedAddress, opt32_word, opt32_from, priority_from, address_tag, address_from, address_word, stage_tag, stage_from, stage_time, confirm_from, confirm_first, confirm_second}
use Rattle.rows.specs.Tables.{rows_of}
use Rattle.tables.specs.Layouts.{unicast_from, unicast_layout, unicast_table}
use Rattle.rows.proofs.Search.{first-at, next-at}
use Rattle.codes.proofs.Backs.{priority-back, rank-low, address-low, stage-back, stage-low}
use Rattle.rows.proofs.Held.{row_of}

-- what the ten words of a place say is its record
pub row : (ws : List ℕ) (i : ℕ) → i < 32
    → unicast_from (get_or ws (i * 10) 0) (get_or ws (i * 10 + 1) 0) (get_or ws (i * 10 + 2) 0) (get_or ws (i * 10 + 3) 0) (get_or ws (i * 10 + 4) 0)
    (get_or ws (i * 10 + 5) 0) (get_or ws (i * 10 + 6) 0) (get_or ws (i * 10 + 7) 0) (get_or ws (i * 10 + 8) 0) (get_or ws (i * 10 + 9) 0)
    ≡ get_or (rows_of unicast_table ws) i blank_unicast
unfolding unicast_layout
row ws i h =
    rw (
      first-at 10 ws (i * 10) (omega arith),
      next-at 10 ws (i * 10) 1 (omega arith),
      next-at 10 ws (i * 10) 2 (omega arith),
      next-at 10 ws (i * 10) 3 (omega arith),
      next-at 10 ws (i * 10) 4 (omega arith),
      next-at 10 ws (i * 10) 5 (omega arith),
      next-at 10 ws (i * 10) 6 (omega arith),
      next-at 10 ws (i * 10) 7 (omega arith),
      next-at 10 ws (i * 10) 8 (omega arith),
      next-at 10 ws (i * 10) 9 (omega arith),
    )
    (row_of unicast_table ws i h)

-- five numbers in one word
module _ (s a p n h : ℕ) (hs : s < 8) (ha : a < 4) (hp : p < 8) (hn : n < 256) (hh : h < 65536) where
  abbrev five : ℕ
  five = s + 8 * (a + 4 * (p + 8 * (n + 256 * h)))

  five0 : five % 8 ≡ s
  five0 = omega arith

  five1 : five / 8 % 4 ≡ a
  five1 = omega arith

  five2 : five / 32 % 8 ≡ p
  five2 = omega arith

  five3 : five / 256 % 256 ≡ n
  five3 = omega arith

  five4 : five / 65536 % 65536 ≡ h
  five4 = omega arith

  pub five-low : five < 4294967296
  five-low = omega arith

pub back : (u : Unicast) {ar : ℕ} {or : ℕ} → u.id < 4294967296 → u.frame < 4294967296 → u.waiter < 4294967296 → u.next_hop < 65536
    → u.attempts_remaining < 256 → CodedAddress u.poll_address ar → Coded opt32_word opt32_from 8589934592 u.copy_of or
    → confirm_from (confirm_first u.confirm) (confirm_second u.confirm) ≡ u.confirm → unicast_table.layout.record_of (unicast_table.layout.words_of u) ≡ u
unfolding unicast_layout
back u hi hf hw hh hn a o c =
    let s : ℕ = stage_tag u.stage in
    let g : ℕ = address_tag u.poll_address in
    let p : ℕ = rank_of u.priority in
    let n : ℕ = u.attempts_remaining in
    let h : ℕ = u.next_hop in
    let f0 = five0 s g p n h (stage-low u.stage) (address-low u.poll_address) (rank-low u.priority) hn hh in
    let f1 = five1 s g p n h (stage-low u.stage) (address-low u.poll_address) (rank-low u.priority) hn hh in
    let f2 = five2 s g p n h (stage-low u.stage) (address-low u.poll_address) (rank-low u.priority) hn hh in
    let f3 = five3 s g p n h (stage-low u.stage) (address-low u.poll_address) (rank-low u.priority) hn hh in
    let f4 = five4 s g p n h (stage-low u.stage) (address-low u.poll_address) (rank-low u.priority) hn hh in
    let es = ap (λ (m : ℕ). stage_from m (stage_time u.stage)) f0 ∙ stage-back u.stage in
    let ea = ap (λ (m : ℕ). address_from m (address_word u.poll_address)) f1 ∙ a.back in
    let ep = ap priority_from f2 ∙ priority-back u.priority in
    λ k. record {
      id = mod-eq_of_lt hi k;
      frame = mod-eq_of_lt hf k;
      waiter = mod-eq_of_lt hw k;
      priority = ep k;
      confirm = c k;
      next_hop = f4 k;
      poll_address = ea k;
      attempts_remaining = f3 k;
      stage = es k;
      deadline = u.deadline;
      copy_of = o.back k;
    }
