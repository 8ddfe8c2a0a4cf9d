-- The parts of a body: what each says, and when it is outside its form. An absent part is zero, a short address at most 65535, a priority 0 to 5, a flag 0
-- or 1, a tag one of its own.
use Rattle.std.specs.Prelude.{ℕ, ◌+◌, ◌/◌, ◌%◌, Bool, true, false, List, [], ◌∷◌, eqb, leb, ltb, Option, None, Some, Ok, Err}
use Rattle.records.specs.Pick.{pick}
use Rattle.fields.specs.Bytes.{number}
use Rattle.fields.specs.Types.{Absent, Short, Extended, Background, UserLow, UserNormal, UserHigh, UserCritical, StackCritical, OnHandoff, ApsAck, QuorumKey, Once, PassiveAck, FixedInterval, FromUnicasts, FromBroadcasts}
use Rattle.records.specs.declared.Priority.{Priority}
use Rattle.records.specs.declared.Address.{Address}
use Rattle.records.specs.declared.AckKey.{AckKey}
use Rattle.records.specs.declared.Confirm.{Confirm}
use Rattle.records.specs.Types.{TxResult}
use Rattle.records.specs.declared.Schedule.{Schedule}
use Rattle.model.specs.declared.Lender.{Lender}

-- ---- an optional number, by its flag or presence bit

abbrev pub opt_by : {A : Type 0} → ℕ → A → Bool → Option (Option A)
opt_by flag x blank = pick (eqb flag 0) (pick blank (Some None) None) (pick (eqb flag 1) (Some (Some x)) None)

abbrev pub opt8_by : ℕ → ℕ → Option (Option ℕ)
opt8_by flag x = opt_by flag x (eqb x 0)

abbrev pub opt16_by : ℕ → ℕ → Option (Option ℕ)
opt16_by flag x = opt_by flag x (eqb x 0)

abbrev pub opt64_by : ℕ → ℕ → Option (Option ℕ)
opt64_by flag x = opt_by flag x (eqb x 0)

-- ---- a priority, 0 to 5 in the Rust's order

abbrev pub priority_by : ℕ → Option Priority
priority_by n =
    pick (eqb n 0) (Some Background)
    (pick (eqb n 1) (Some UserLow)
    (pick (eqb n 2) (Some UserNormal)
    (pick (eqb n 3) (Some UserHigh)
    (pick (eqb n 4) (Some UserCritical)
    (pick (eqb n 5) (Some StackCritical)
    None)))))

-- ---- an address: tag 0 none, 1 short, 2 extended, then 8 bytes

abbrev pub address_by : ℕ → ℕ → Option Address
address_by tag x =
    pick (eqb tag 0) (pick (eqb x 0) (Some Absent) None)
    (pick (eqb tag 1) (pick (leb x 65535) (Some (Short x)) None)
    (pick (eqb tag 2) (Some (Extended x)) None))

abbrev pub address_at : ℕ → List ℕ → Option Address
address_at at b = address_by (number 1 at b) (number 8 (at + 1) b)

-- ---- a key: presence bits 0 to 3 (destination endpoint, cluster, profile, source endpoint), src 2, those fields 1+2+2+1, counter 1

abbrev pub key_with : ℕ → Option (Option ℕ) → Option (Option ℕ) → Option (Option ℕ) → Option (Option ℕ) → ℕ → Option AckKey
key_with src (Some d) (Some c) (Some p) (Some s) counter =
    Some (record { src = src; destination_endpoint = d; cluster_id = c; profile_id = p; source_endpoint = s; counter = counter })
key_with src (Some d) (Some c) (Some p) None counter = None
key_with src (Some d) (Some c) None s counter = None
key_with src (Some d) None p s counter = None
key_with src None c p s counter = None

abbrev pub key_bits : ℕ → ℕ → List ℕ → Option AckKey
key_bits bits at b =
    key_with (number 2 (at + 1) b)
    (opt8_by (bits % 2) (number 1 (at + 3) b))
    (opt16_by (bits / 2 % 2) (number 2 (at + 4) b))
    (opt16_by (bits / 4 % 2) (number 2 (at + 6) b))
    (opt8_by (bits / 8 % 2) (number 1 (at + 8) b))
    (number 1 (at + 9) b)

abbrev pub key_at : ℕ → List ℕ → Option AckKey
key_at at b = pick (ltb 15 (number 1 at b)) None (key_bits (number 1 at b) at b)

-- ---- what confirms a send: tag (1 for ack), key 10, wait 4

abbrev pub ack_with : Option AckKey → ℕ → Option Confirm
ack_with (Some k) wait = Some (ApsAck k wait)
ack_with None wait = None

abbrev pub confirm_with : ℕ → Bool → Option AckKey → ℕ → Option Confirm
confirm_with tag blank key wait = pick (eqb tag 0) (pick blank (Some OnHandoff) None) (pick (eqb tag 1) (ack_with key wait) None)

abbrev pub confirm_at : ℕ → List ℕ → Option Confirm
confirm_at at b = confirm_with (number 1 at b) (eqb (number 14 (at + 1) b) 0) (key_at (at + 1) b) (number 4 (at + 11) b)

-- ---- a result: tag (1 for error), code 2; and of which table it is (1 for broadcast)

abbrev pub result_by : ℕ → ℕ → Option TxResult
result_by tag code = pick (eqb tag 0) (pick (eqb code 0) (Some (Ok tt)) None) (pick (eqb tag 1) (Some (Err code)) None)

abbrev pub lender_by : ℕ → Option Lender
lender_by flag = pick (eqb flag 0) (Some FromUnicasts) (pick (eqb flag 1) (Some FromBroadcasts) None)

-- ---- a schedule: tag 0 once, 1 passive, 2 fixed, src 2, sequence 1, interval 4, copies 1, next 8

abbrev pub all_zero : List ℕ → Bool
all_zero [] = true
all_zero (x ∷ l) = pick (eqb x 0) (all_zero l) false

abbrev pub once_by : Bool → Option Schedule
once_by blank = pick blank (Some Once) None

abbrev pub passive_by : QuorumKey → ℕ → ℕ → ℕ → Option Schedule
passive_by key interval copies next = pick (eqb interval 0) (Some (PassiveAck key copies next)) None

abbrev pub fixed_by : ℕ → ℕ → ℕ → ℕ → ℕ → Option Schedule
fixed_by src sequence interval copies next = pick (all_zero (src ∷ sequence ∷ [])) (Some (FixedInterval interval copies next)) None

abbrev pub schedule_by : ℕ → ℕ → ℕ → ℕ → ℕ → ℕ → Option Schedule
schedule_by tag src sequence interval copies next =
    pick (eqb tag 0) (once_by (all_zero (src ∷ sequence ∷ interval ∷ copies ∷ next ∷ [])))
    (pick (eqb tag 1) (passive_by (record { src = src; sequence = sequence }) interval copies next)
    (pick (eqb tag 2) (fixed_by src sequence interval copies next) None))

abbrev pub schedule_at : ℕ → List ℕ → Option Schedule
schedule_at at b =
    schedule_by (number 1 at b) (number 2 (at + 1) b) (number 1 (at + 3) b) (number 4 (at + 4) b) (number 1 (at + 8) b) (number 8 (at + 9) b)
