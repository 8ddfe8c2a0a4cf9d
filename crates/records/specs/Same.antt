-- When two optional numbers, addresses or keys are the same one. (proofs/Same: exactly when they are equal.)
use Rattle.std.specs.Prelude.{Bool, true, false, ◌&&◌, eqb, Option, None, Some, ℕ}
use Rattle.records.specs.Types.{Address, Absent, Short, Extended, AckKey, QuorumKey}

abbrev pub same_number : Option ℕ → Option ℕ → Bool
same_number None None = true
same_number None (Some y) = false
same_number (Some x) None = false
same_number (Some x) (Some y) = eqb x y

abbrev pub same_address : Address → Address → Bool
same_address Absent Absent = true
same_address Absent (Short y) = false
same_address Absent (Extended y) = false
same_address (Short x) Absent = false
same_address (Short x) (Short y) = eqb x y
same_address (Short x) (Extended y) = false
same_address (Extended x) Absent = false
same_address (Extended x) (Short y) = false
same_address (Extended x) (Extended y) = eqb x y

-- all six fields
abbrev pub same_ack_key : AckKey → AckKey → Bool
same_ack_key a b =
    eqb a.src b.src && (eqb a.counter b.counter && (same_number a.destination_endpoint b.destination_endpoint
    && (same_number a.cluster_id b.cluster_id && (same_number a.profile_id b.profile_id && same_number a.source_endpoint b.source_endpoint))))

abbrev pub same_quorum_key : QuorumKey → QuorumKey → Bool
same_quorum_key a b = eqb a.src b.src && eqb a.sequence b.sequence
