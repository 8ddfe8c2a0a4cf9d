-- The declared types that the replies speak of and their variants, under one name.
pub use Rattle.records.specs.declared.Action.{Action}
pub use Rattle.records.specs.declared.Action.TheVariants.{HandedOff, Settled}
pub use Rattle.model.specs.declared.Answer.{Answer}
pub use Rattle.model.specs.declared.Answer.TheVariants.{Denied, Accepted, Issued, Replied, NothingQueued, InFlight}
pub use Rattle.model.specs.declared.Transmit.{Transmit}
pub use Rattle.answers.specs.declared.Item.{Item}
pub use Rattle.answers.specs.declared.Item.TheVariants.{Refused, Done, Id, Flight, YesNo}
