-- The declared types that the rules of broadcasts speak of, under one name.
pub use Rattle.records.specs.declared.Priority.{Priority}
pub use Rattle.records.specs.declared.QuorumKey.{QuorumKey}
pub use Rattle.records.specs.declared.Schedule.{Schedule}
pub use Rattle.records.specs.declared.Schedule.TheVariants.{Once, PassiveAck, FixedInterval}
pub use Rattle.records.specs.declared.CopyState.{CopyState}
pub use Rattle.records.specs.declared.CopyState.TheVariants.{Idle, CopyQueued, CopyTransmitting}
pub use Rattle.records.specs.declared.Broadcast.{Broadcast}
pub use Rattle.records.specs.Types.{TxResult}
pub use Rattle.records.specs.declared.SendFailure.TheVariants.{HandoffTimeout, BroadcastQuorumNotReached, Cancelled}
pub use Rattle.records.specs.declared.Verdict.{Verdict}
pub use Rattle.records.specs.declared.Verdict.TheVariants.{Success, Failure, Code}
pub use Rattle.records.specs.declared.Refusal.{Refusal}
pub use Rattle.records.specs.declared.Refusal.TheVariants.{NoSuchSend, InTheRadio, NotInTheRadio, OtherFrame}
pub use Rattle.tables.specs.declared.broadcast_rows.BroadcastHead.{BroadcastHead}
pub use Rattle.tables.specs.declared.Counts.{Counts}
