-- The declared types that the answers speak of and their variants, under one name.
pub use Rattle.records.specs.declared.Address.{Address}
pub use Rattle.records.specs.declared.QuorumKey.{QuorumKey}
pub use Rattle.records.specs.declared.Verdict.{Verdict}
pub use Rattle.records.specs.declared.Entry.{Entry}
pub use Rattle.records.specs.declared.Action.{Action}
pub use Rattle.records.specs.declared.Action.TheVariants.{HandedOff, Settled}
pub use Rattle.records.specs.declared.Refusal.{Refusal}
pub use Rattle.model.specs.declared.Transmit.{Transmit}
pub use Rattle.model.specs.declared.Transmit.TheVariants.{Unicasting, Broadcasting}
pub use Rattle.answers.specs.declared.Item.{Item}
pub use Rattle.answers.specs.declared.Item.TheVariants.{Refused, Done, Id, Handoff, Settlement, Flight, YesNo, Time, ShortAddress, ExtendedAddress, Key, Abandonment, DestinationAddress, End}
