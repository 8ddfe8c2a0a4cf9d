-- The declared types that the events' effects speak of, and their variants, under one name.
pub use Rattle.records.specs.declared.Settings.{Settings}
pub use Rattle.records.specs.declared.Refusal.TheVariants.{FieldMalformed}
pub use Rattle.model.specs.Types.{Resolved}
pub use Rattle.model.specs.declared.Answer.TheVariants.{Accepted, Replied}
pub use Rattle.events.specs.declared.Event.{Event}
pub use Rattle.events.specs.declared.Event.TheVariants.{OnSettings, OnUnicast, OnCopy, OnUnrouted, OnBroadcast, OnDequeue, OnReport, OnPoll, OnAck, OnRetry, OnFail, OnRoute, OnDelivered, OnDrop, OnCancel, OnTick, OnAbandon, OnNextWake, OnPair, OnLists, OnHasUnrouted, OnHasAwaiting, Malformed}
