-- The declared types that the parts of a body speak of, and their variants, under one name.
pub use Rattle.records.specs.declared.Address.TheVariants.{Absent, Short, Extended}
pub use Rattle.records.specs.declared.Priority.TheVariants.{Background, UserLow, UserNormal, UserHigh, UserCritical, StackCritical}
pub use Rattle.records.specs.declared.Confirm.TheVariants.{OnHandoff, ApsAck}
pub use Rattle.records.specs.declared.QuorumKey.{QuorumKey}
pub use Rattle.records.specs.declared.Schedule.TheVariants.{Once, PassiveAck, FixedInterval}
pub use Rattle.model.specs.declared.Lender.TheVariants.{FromUnicasts, FromBroadcasts}
