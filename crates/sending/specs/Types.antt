-- The declared types that the rules of unicasts speak of, under one name.
pub use Rattle.records.specs.declared.Address.{Address}
pub use Rattle.records.specs.declared.Address.TheVariants.{Absent, Short, Extended}
pub use Rattle.records.specs.declared.Priority.{Priority}
pub use Rattle.records.specs.declared.Priority.TheVariants.{StackCritical}
pub use Rattle.records.specs.declared.AckKey.{AckKey}
pub use Rattle.records.specs.declared.Confirm.{Confirm}
pub use Rattle.records.specs.declared.Confirm.TheVariants.{OnHandoff, ApsAck}
pub use Rattle.records.specs.declared.Stage.{Stage}
pub use Rattle.records.specs.declared.Stage.TheVariants.{Queued, Transmitting, Retrying, AwaitingPoll, AwaitingApsAck}
pub use Rattle.records.specs.declared.Unicast.{Unicast}
pub use Rattle.records.specs.declared.Settings.{Settings}
pub use Rattle.records.specs.Types.{TxResult}
pub use Rattle.records.specs.declared.SendFailure.{SendFailure}
pub use Rattle.records.specs.declared.SendFailure.TheVariants.{HandoffTimeout, ApsAckTimeout, IndirectExpired, Cancelled}
pub use Rattle.records.specs.declared.Verdict.{Verdict}
pub use Rattle.records.specs.declared.Verdict.TheVariants.{Success, Failure, Code}
pub use Rattle.records.specs.declared.Refusal.{Refusal}
pub use Rattle.records.specs.declared.Refusal.TheVariants.{NoSuchSend, InTheRadio, NotInTheRadio, OtherFrame}
pub use Rattle.tables.specs.declared.unicast_rows.UnicastHead.{UnicastHead}
pub use Rattle.sending.specs.declared.Due.{Due}
pub use Rattle.sending.specs.declared.Due.TheVariants.{Leave, Requeue, Finish}
pub use Rattle.sending.specs.declared.Which.{Which}
pub use Rattle.sending.specs.declared.Which.TheVariants.{Lapsed, Dropped, CopyOf}
pub use Rattle.sending.specs.declared.Sought.{Sought}
pub use Rattle.sending.specs.declared.Sought.TheVariants.{Pending, Beside, SentCopy}
