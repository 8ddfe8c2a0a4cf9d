-- 01's numbers: of each refusal, of each failure and verdict; and the settings before any are given.
use Rattle.std.specs.Prelude.{ℕ}
use Rattle.records.specs.Types.{Refusal, TimeTooLate, IdsExhausted, NoCopies, NoPlace, NoSuchSend, InTheRadio, NotInTheRadio, OtherFrame, DestinationNotHeld, ResultsMismatch, MapMalformed, UnknownKind, RecordCut, FieldMalformed, AnswersDoNotFit, TraceTooLong, SendFailure, HandoffTimeout, ApsAckTimeout, IndirectExpired, RouteDiscoveryTimeout, BroadcastQuorumNotReached, Cancelled, Verdict, Success, Failure, Code, Settings, Address, Absent}

abbrev pub refusal_number : Refusal → ℕ
refusal_number TimeTooLate = 1
refusal_number IdsExhausted = 2
refusal_number NoCopies = 3
refusal_number NoPlace = 4
refusal_number NoSuchSend = 5
refusal_number InTheRadio = 6
refusal_number NotInTheRadio = 7
refusal_number OtherFrame = 8
refusal_number DestinationNotHeld = 9
refusal_number ResultsMismatch = 10
refusal_number MapMalformed = 11
refusal_number UnknownKind = 12
refusal_number RecordCut = 13
refusal_number FieldMalformed = 14
refusal_number AnswersDoNotFit = 15
refusal_number TraceTooLong = 16

abbrev pub failure_number : SendFailure → ℕ
failure_number HandoffTimeout = 1
failure_number ApsAckTimeout = 2
failure_number (IndirectExpired a) = 3
failure_number RouteDiscoveryTimeout = 4
failure_number BroadcastQuorumNotReached = 5
failure_number Cancelled = 6

abbrev pub verdict_number : Verdict → ℕ
verdict_number Success = 0
verdict_number (Failure f) = failure_number f
verdict_number (Code c) = 7

-- what a verdict says besides its number: the poll address of an expired send, and the caller's code
abbrev pub verdict_address : Verdict → Address
verdict_address Success = Absent
verdict_address (Failure HandoffTimeout) = Absent
verdict_address (Failure ApsAckTimeout) = Absent
verdict_address (Failure (IndirectExpired a)) = a
verdict_address (Failure RouteDiscoveryTimeout) = Absent
verdict_address (Failure BroadcastQuorumNotReached) = Absent
verdict_address (Failure Cancelled) = Absent
verdict_address (Code c) = Absent

abbrev pub verdict_code : Verdict → ℕ
verdict_code Success = 0
verdict_code (Failure f) = 0
verdict_code (Code c) = c

abbrev pub default_settings : Settings
default_settings = record { handoff_timeout = 8000; persistence_time = 7680; unicast_retries = 3; discovery_attempts = 3 }
