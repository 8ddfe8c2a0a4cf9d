-- The declared types that events speak of, and their variants, under one name.
pub use Rattle.records.specs.declared.Address.{Address}
pub use Rattle.records.specs.declared.Address.TheVariants.{Absent, Short, Extended}
pub use Rattle.records.specs.declared.Priority.{Priority}
pub use Rattle.records.specs.declared.Priority.TheVariants.{Background, UserLow, UserNormal, UserHigh, UserCritical, StackCritical}
pub use Rattle.records.specs.declared.AckKey.{AckKey}
pub use Rattle.records.specs.declared.Confirm.{Confirm}
pub use Rattle.records.specs.declared.Confirm.TheVariants.{OnHandoff, ApsAck}
pub use Rattle.records.specs.declared.QuorumKey.{QuorumKey}
pub use Rattle.records.specs.declared.Schedule.{Schedule}
pub use Rattle.records.specs.declared.Schedule.TheVariants.{Once, PassiveAck, FixedInterval}
pub use Rattle.records.specs.declared.Settings.{Settings}
pub use Rattle.records.specs.Types.{TxResult}
pub use Rattle.model.specs.declared.NewUnicast.{NewUnicast}
pub use Rattle.model.specs.declared.NewUnrouted.{NewUnrouted}
pub use Rattle.model.specs.declared.NewBroadcast.{NewBroadcast}
pub use Rattle.model.specs.Types.{Resolved}
pub use Rattle.model.specs.declared.Lender.{Lender}
pub use Rattle.model.specs.declared.Lender.TheVariants.{FromUnicasts, FromBroadcasts}
pub use Rattle.events.specs.declared.Event.{Event}
pub use Rattle.events.specs.declared.Event.TheVariants.{OnSettings, OnUnicast, OnCopy, OnUnrouted, OnBroadcast, OnDequeue, OnReport, OnPoll, OnAck, OnRetry, OnFail, OnRoute, OnDelivered, OnDrop, OnCancel, OnTick, OnAbandon, OnNextWake, OnPair, OnLists, OnHasUnrouted, OnHasAwaiting, Malformed}
