-- The parts of a record as numbers, and what such numbers say. Each number is below a limit, so that several share a word; 0 says the first variant, so
-- that zeros say a blank.
use Rattle.std.specs.Prelude.{ℕ, ◌+◌, ◌-◌, ◌*◌, ◌/◌, ◌%◌, ◌<◌, ◌≡◌, Bool, true, false, eqb, Option, None, Some}
use Rattle.records.specs.Pick.{pick}
use Rattle.codes.specs.Types.{Priority, Background, UserLow, UserNormal, UserHigh, UserCritical, StackCritical, Address, Absent, Short, Extended, Stage, Queued, Transmitting, Retrying, AwaitingPoll, AwaitingApsAck, CopyState, Idle, CopyQueued, CopyTransmitting, Schedule, Once, PassiveAck, FixedInterval, QuorumKey, AckKey, Confirm, OnHandoff, ApsAck}
use Rattle.codes.specs.declared.Two.{Two}

-- r is the number of a, is below the limit, and says a again
pub record Coded {A : Type 0} (word : A → ℕ) (from : ℕ → A) (limit : ℕ) (a : A) (r : ℕ) : Type 0 where
  pub is : r ≡ word a
  pub low : word a < limit
  pub back : from (word a) ≡ a

-- ---- optional numbers: 0 where absent, else one more; over what the number is and which value a number says

module _ {A : Type 0} where
  abbrev pub opt_word : (A → ℕ) → Option A → ℕ
  opt_word number None = 0
  opt_word number (Some x) = number x + 1

  abbrev pub opt_from : (ℕ → A) → ℕ → Option A
  opt_from value x = pick (eqb x 0) None (Some (value (x - 1)))

abbrev pub opt8_word : Option ℕ → ℕ
opt8_word = opt_word (λ x. x)

abbrev pub opt8_from : ℕ → Option ℕ
opt8_from = opt_from (λ x. x % 256)

abbrev pub opt16_word : Option ℕ → ℕ
opt16_word = opt_word (λ x. x)

abbrev pub opt16_from : ℕ → Option ℕ
opt16_from = opt_from (λ x. x % 65536)

abbrev pub opt32_word : Option ℕ → ℕ
opt32_word = opt_word (λ x. x)

abbrev pub opt32_from : ℕ → Option ℕ
opt32_from = opt_from (λ x. x % 4294967296)

-- ---- levels and flags

abbrev pub priority_from : ℕ → Priority
priority_from n =
    pick (eqb n 0) Background (pick (eqb n 1) UserLow (pick (eqb n 2) UserNormal (pick (eqb n 3) UserHigh (pick (eqb n 4) UserCritical StackCritical))))

abbrev pub flag : ℕ → Bool
flag n = eqb n 1

-- ---- addresses

abbrev pub address_tag : Address → ℕ
address_tag Absent = 0
address_tag (Short x) = 1
address_tag (Extended x) = 2

abbrev pub address_word : Address → ℕ
address_word Absent = 0
address_word (Short x) = x
address_word (Extended x) = x

abbrev pub address_from : ℕ → ℕ → Address
address_from tag x = pick (eqb tag 0) Absent (pick (eqb tag 1) (Short (x % 65536)) (Extended x))

pub record CodedAddress (a : Address) (r : ℕ) : Type 0 where
  pub is : r ≡ address_word a
  pub back : address_from (address_tag a) (address_word a) ≡ a

-- ---- stages

abbrev pub stage_tag : Stage → ℕ
stage_tag Queued = 0
stage_tag (Transmitting acked) = pick acked 2 1
stage_tag (Retrying at) = 3
stage_tag AwaitingPoll = 4
stage_tag AwaitingApsAck = 5

abbrev pub stage_time : Stage → ℕ
stage_time Queued = 0
stage_time (Transmitting acked) = 0
stage_time (Retrying at) = at
stage_time AwaitingPoll = 0
stage_time AwaitingApsAck = 0

abbrev pub stage_from : ℕ → ℕ → Stage
stage_from tag at =
    pick (eqb tag 0) Queued
    (pick (eqb tag 1) (Transmitting false) (pick (eqb tag 2) (Transmitting true) (pick (eqb tag 3) (Retrying at) (pick (eqb tag 4) AwaitingPoll AwaitingApsAck))))

-- ---- copies and schedules

abbrev pub copy_tag : CopyState → ℕ
copy_tag Idle = 0
copy_tag CopyQueued = 1
copy_tag CopyTransmitting = 2

abbrev pub copy_from : ℕ → CopyState
copy_from tag = pick (eqb tag 0) Idle (pick (eqb tag 1) CopyQueued CopyTransmitting)

abbrev pub quorum_word : QuorumKey → ℕ
quorum_word k = k.src + 65536 * k.sequence

abbrev pub quorum_from : ℕ → QuorumKey
quorum_from x = record { src = x % 65536; sequence = x / 65536 % 256 }

abbrev pub schedule_tag : Schedule → ℕ
schedule_tag Once = 0
schedule_tag (PassiveAck key copies next) = 1
schedule_tag (FixedInterval interval copies next) = 2

abbrev pub schedule_copies : Schedule → ℕ
schedule_copies Once = 0
schedule_copies (PassiveAck key copies next) = copies
schedule_copies (FixedInterval interval copies next) = copies

pub record CodedCopies (s : Schedule) (r : ℕ) : Type 0 where
  pub is : r ≡ schedule_copies s
  pub low : schedule_copies s < 256

abbrev pub schedule_what : Schedule → ℕ
schedule_what Once = 0
schedule_what (PassiveAck key copies next) = quorum_word key
schedule_what (FixedInterval interval copies next) = interval

abbrev pub schedule_next : Schedule → ℕ
schedule_next Once = 0
schedule_next (PassiveAck key copies next) = next
schedule_next (FixedInterval interval copies next) = next

abbrev pub schedule_from : ℕ → ℕ → ℕ → ℕ → Schedule
schedule_from tag copies what next =
    pick (eqb tag 0) Once (pick (eqb tag 1) (PassiveAck (quorum_from what) (copies % 256) next) (FixedInterval (what % 4294967296) (copies % 256) next))

pub record CodedSchedule (s : Schedule) (r : ℕ) : Type 0 where
  pub is : r ≡ schedule_what s
  pub low : schedule_copies s < 256
  pub back : schedule_from (schedule_tag s) (schedule_copies s) (schedule_what s) (schedule_next s) ≡ s

-- ---- what confirms a send

abbrev pub ack_first : AckKey → ℕ
ack_first k = k.src + 65536 * (opt8_word k.destination_endpoint + 512 * (opt16_word k.cluster_id + 131072 * opt16_word k.profile_id))

abbrev pub ack_second : AckKey → ℕ → ℕ
ack_second k wait = 1 + 2 * (opt8_word k.source_endpoint + 512 * (k.counter + 256 * wait))

abbrev pub ack_key_from : ℕ → ℕ → AckKey
ack_key_from a b =
    record {
      src = a % 65536;
      destination_endpoint = opt8_from (a / 65536 % 512);
      cluster_id = opt16_from (a / 33554432 % 131072);
      profile_id = opt16_from (a / 4398046511104 % 131072);
      source_endpoint = opt8_from (b / 2 % 512);
      counter = b / 1024 % 256;
    }

abbrev pub confirm_first : Confirm → ℕ
confirm_first OnHandoff = 0
confirm_first (ApsAck k wait) = ack_first k

abbrev pub confirm_second : Confirm → ℕ
confirm_second OnHandoff = 0
confirm_second (ApsAck k wait) = ack_second k wait

abbrev pub confirm_from : ℕ → ℕ → Confirm
confirm_from a b = pick (eqb (b % 2) 0) OnHandoff (ApsAck (ack_key_from a b) (b / 262144 % 4294967296))

pub record CodedConfirm (c : Confirm) (r : Two) : Type 0 where
  pub is : r ≡ record { first = confirm_first c; second = confirm_second c }
  pub back : confirm_from (confirm_first c) (confirm_second c) ≡ c
