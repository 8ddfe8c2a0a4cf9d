-- What the numbers of a record's parts say is the part again. Assumes nothing.
use Rattle.std.specs.Prelude.{None}
use Prim.Native.Nat.{ℕ, ◌+◌, ◌*◌, ◌/◌, ◌%◌, ◌<◌}
use native.Mathlib.Nat.{mod-eq_of_lt}
use native.Mathlib.Omega.{arith}
use mathlib.Core.Path.{◌≡◌, refl, ap, ap₂, ◌∙◌}
use mathlib.Core.Bool.{Bool, true, false}
use lib.Dec.{eqb}
use Rattle.records.specs.Pick.{pick, bit}
use Rattle.records.specs.Priorities.{rank_of}
use Rattle.codes.specs.Types.{Priority, Background, UserLow, UserNormal, UserHigh, UserCritical, StackCritical, Address, Absent, Short, Extended, Stage, Queued, Transmitting, Retrying, AwaitingPoll, AwaitingApsAck, CopyState, Idle, CopyQueued, CopyTransmitting, Schedule, Once, PassiveAck, FixedInterval, QuorumKey, AckKey, OnHandoff, ApsAck}
use Rattle.codes.specs.Codes.{Coded, opt_word, opt_from, opt8_word, opt8_from, opt16_word, opt16_from, priority_from, flag, address_tag, CodedAddress, stage_tag, stage_time, stage_from, copy_tag, copy_from, quorum_word, quorum_from, schedule_tag, CodedSchedule, ack_first, ack_second, ack_key_from, confirm_from, CodedConfirm}

-- ---- optional numbers

pub coded-none : {A : Type 0} (number : A → ℕ) (value : ℕ → A) (size : ℕ) → 0 < size → Coded (opt_word number) (opt_from value) (2 * size) None 0
coded-none number value size h = record { is = refl; low = omega arith; back = refl }

-- ---- levels, flags, tags

pub priority-back : (p : Priority) → priority_from (rank_of p) ≡ p
priority-back Background = refl
priority-back UserLow = refl
priority-back UserNormal = refl
priority-back UserHigh = refl
priority-back UserCritical = refl
priority-back StackCritical = refl

pub rank-low : (p : Priority) → rank_of p < 8
rank-low Background = omega arith
rank-low UserLow = omega arith
rank-low UserNormal = omega arith
rank-low UserHigh = omega arith
rank-low UserCritical = omega arith
rank-low StackCritical = omega arith

pub flag-back : (b : Bool) → flag (bit b) ≡ b
flag-back true = refl
flag-back false = refl

pub bit-low : (b : Bool) → bit b < 2
bit-low true = omega arith
bit-low false = omega arith

pub address-low : (a : Address) → address_tag a < 4
address-low Absent = omega arith
address-low (Short x) = omega arith
address-low (Extended x) = omega arith

pub stage-back : (s : Stage) → stage_from (stage_tag s) (stage_time s) ≡ s
stage-back Queued = refl
stage-back (Transmitting true) = refl
stage-back (Transmitting false) = refl
stage-back (Retrying at) = refl
stage-back AwaitingPoll = refl
stage-back AwaitingApsAck = refl

pub stage-low : (s : Stage) → stage_tag s < 8
stage-low Queued = omega arith
stage-low (Transmitting true) = omega arith
stage-low (Transmitting false) = omega arith
stage-low (Retrying at) = omega arith
stage-low AwaitingPoll = omega arith
stage-low AwaitingApsAck = omega arith

pub copy-back : (c : CopyState) → copy_from (copy_tag c) ≡ c
copy-back Idle = refl
copy-back CopyQueued = refl
copy-back CopyTransmitting = refl

pub copy-low : (c : CopyState) → copy_tag c < 4
copy-low Idle = omega arith
copy-low CopyQueued = omega arith
copy-low CopyTransmitting = omega arith

-- ---- schedules

module _ (s q : ℕ) (hs : s < 65536) (hq : q < 256) where
  two0 : (s + 65536 * q) % 65536 ≡ s
  two0 = omega arith

  two1 : (s + 65536 * q) / 65536 % 256 ≡ q
  two1 = omega arith

  two-low : s + 65536 * q < 16777216
  two-low = omega arith

pub quorum-back : (k : QuorumKey) → k.src < 65536 → k.sequence < 256 → Coded quorum_word quorum_from 16777216 k (quorum_word k)
quorum-back k a b =
    record {
      is = refl;
      low = two-low k.src k.sequence a b;
      back = λ i. record { src = two0 k.src k.sequence a b i; sequence = two1 k.src k.sequence a b i };
    }

pub schedule-low : (s : Schedule) → schedule_tag s < 4
schedule-low Once = omega arith
schedule-low (PassiveAck key copies next) = omega arith
schedule-low (FixedInterval interval copies next) = omega arith
