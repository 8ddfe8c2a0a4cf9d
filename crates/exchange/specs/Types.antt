-- The declared types that a turn speaks of and their variants, under one name.
pub use Rattle.records.specs.declared.Settings.{Settings}
pub use Rattle.records.specs.declared.Unicast.{Unicast}
pub use Rattle.records.specs.declared.Destination.{Destination}
pub use Rattle.records.specs.declared.Broadcast.{Broadcast}
pub use Rattle.records.specs.declared.Entry.{Entry}
pub use Rattle.records.specs.declared.QuorumKey.{QuorumKey}
pub use Rattle.records.specs.declared.Refusal.TheVariants.{NoPlace, FieldMalformed}
pub use Rattle.sending.specs.declared.Book.TheVariants.{Shorts, Longs}
pub use Rattle.model.specs.declared.Counts.{Counts}
pub use Rattle.model.specs.declared.Did.{Did}
pub use Rattle.model.specs.declared.Abandoned.{Abandoned}
pub use Rattle.model.specs.Types.{Resolved}
pub use Rattle.answers.specs.declared.Item.{Item}
pub use Rattle.answers.specs.declared.Item.TheVariants.{Refused, Done, ShortAddress, ExtendedAddress, Key, Abandonment, DestinationAddress}
pub use Rattle.events.specs.declared.Event.{Event}
pub use Rattle.events.specs.declared.Event.TheVariants.{OnSettings, OnUnicast, OnCopy, OnUnrouted, OnBroadcast, OnDequeue, OnReport, OnPoll, OnAck, OnRetry, OnFail, OnRoute, OnDelivered, OnDrop, OnCancel, OnTick, OnAbandon, OnNextWake, OnPair, OnLists, OnHasUnrouted, OnHasAwaiting, Malformed}
pub use Rattle.exchange.specs.declared.Left.{Left}
pub use Rattle.exchange.specs.declared.lists.Sizes.{Sizes}
