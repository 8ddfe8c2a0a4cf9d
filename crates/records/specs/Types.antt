-- The declared types and their variants under one name, for every definition and law that speaks of them.
use Rattle.std.specs.Prelude.{ℕ, ⊤, Result}
pub use Rattle.records.specs.declared.Address.{Address}
pub use Rattle.records.specs.declared.Address.TheVariants.{Absent, Short, Extended}
pub use Rattle.records.specs.declared.Priority.{Priority}
pub use Rattle.records.specs.declared.Priority.TheVariants.{Background, UserLow, UserNormal, UserHigh, UserCritical, StackCritical}
pub use Rattle.records.specs.declared.AckKey.{AckKey}
pub use Rattle.records.specs.declared.Confirm.{Confirm}
pub use Rattle.records.specs.declared.Confirm.TheVariants.{OnHandoff, ApsAck}
pub use Rattle.records.specs.declared.Stage.{Stage}
pub use Rattle.records.specs.declared.Stage.TheVariants.{Queued, Transmitting, Retrying, AwaitingPoll, AwaitingApsAck}
pub use Rattle.records.specs.declared.Unicast.{Unicast}
pub use Rattle.records.specs.declared.Unrouted.{Unrouted}
pub use Rattle.records.specs.declared.Destination.{Destination}
pub use Rattle.records.specs.declared.QuorumKey.{QuorumKey}
pub use Rattle.records.specs.declared.Schedule.{Schedule}
pub use Rattle.records.specs.declared.Schedule.TheVariants.{Once, PassiveAck, FixedInterval}
pub use Rattle.records.specs.declared.CopyState.{CopyState}
pub use Rattle.records.specs.declared.CopyState.TheVariants.{Idle, CopyQueued, CopyTransmitting}
pub use Rattle.records.specs.declared.Broadcast.{Broadcast}
pub use Rattle.records.specs.declared.Settings.{Settings}
pub use Rattle.records.specs.declared.SendFailure.{SendFailure}
pub use Rattle.records.specs.declared.SendFailure.TheVariants.{HandoffTimeout, ApsAckTimeout, IndirectExpired, RouteDiscoveryTimeout, BroadcastQuorumNotReached, Cancelled}
pub use Rattle.records.specs.declared.Verdict.{Verdict}
pub use Rattle.records.specs.declared.Verdict.TheVariants.{Success, Failure, Code}
pub use Rattle.records.specs.declared.Entry.{Entry}
pub use Rattle.records.specs.declared.Action.{Action}
pub use Rattle.records.specs.declared.Action.TheVariants.{HandedOff, Settled}
pub use Rattle.records.specs.declared.Refusal.{Refusal}
pub use Rattle.records.specs.declared.Refusal.TheVariants.{TimeTooLate, IdsExhausted, NoCopies, NoPlace, NoSuchSend, InTheRadio, NotInTheRadio, OtherFrame, DestinationNotHeld, ResultsMismatch, MapMalformed, UnknownKind, RecordCut, FieldMalformed, AnswersDoNotFit, TraceTooLong}

-- what the radio reports of a transmit: it went out, or the radio's code
abbrev pub TxResult : Type 0
TxResult = Result ⊤ ℕ
