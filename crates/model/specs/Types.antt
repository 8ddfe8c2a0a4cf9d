-- The declared types that the calls speak of, under one name.
use Rattle.std.specs.Prelude.{ℕ, Result}
pub use Rattle.records.specs.declared.Address.{Address}
pub use Rattle.records.specs.declared.AckKey.{AckKey}
pub use Rattle.records.specs.declared.QuorumKey.{QuorumKey}
pub use Rattle.records.specs.declared.Schedule.{Schedule}
pub use Rattle.records.specs.declared.Schedule.TheVariants.{Once, PassiveAck, FixedInterval}
pub use Rattle.records.specs.declared.Unicast.{Unicast}
pub use Rattle.records.specs.declared.Unrouted.{Unrouted}
pub use Rattle.records.specs.declared.Destination.{Destination}
pub use Rattle.records.specs.declared.Broadcast.{Broadcast}
pub use Rattle.records.specs.declared.Settings.{Settings}
pub use Rattle.records.specs.Types.{TxResult}
pub use Rattle.records.specs.declared.Entry.{Entry}
pub use Rattle.records.specs.declared.Verdict.TheVariants.{Code}
pub use Rattle.records.specs.declared.Action.{Action}
pub use Rattle.records.specs.declared.Action.TheVariants.{Settled}
pub use Rattle.records.specs.declared.Refusal.{Refusal}
pub use Rattle.records.specs.declared.Refusal.TheVariants.{TimeTooLate, IdsExhausted, NoCopies, NoPlace, NoSuchSend, InTheRadio, DestinationNotHeld, ResultsMismatch, MapMalformed}
pub use Rattle.sending.specs.declared.Book.{Book}
pub use Rattle.sending.specs.declared.Book.TheVariants.{Shorts, Longs}
pub use Rattle.unrouted.specs.declared.Which.TheVariants.{Lapsed, Bound}
pub use Rattle.unrouted.specs.declared.Retry.{Retry}
pub use Rattle.unrouted.specs.declared.Retry.TheVariants.{NotHeld, Declined, Granted}
pub use Rattle.model.specs.declared.NewUnicast.{NewUnicast}
pub use Rattle.model.specs.declared.NewUnrouted.{NewUnrouted}
pub use Rattle.model.specs.declared.NewBroadcast.{NewBroadcast}
pub use Rattle.model.specs.declared.Lender.{Lender}
pub use Rattle.model.specs.declared.Lender.TheVariants.{FromUnicasts, FromBroadcasts}
pub use Rattle.model.specs.declared.Transmit.{Transmit}
pub use Rattle.model.specs.declared.Transmit.TheVariants.{Unicasting, Broadcasting}
pub use Rattle.model.specs.declared.Answer.{Answer}
pub use Rattle.model.specs.declared.Answer.TheVariants.{Denied, Accepted, Issued, Replied, NothingQueued, InFlight}
pub use Rattle.model.specs.declared.Counts.{Counts}
pub use Rattle.model.specs.declared.Did.{Did}
pub use Rattle.model.specs.declared.Sends.{Sends}
pub use Rattle.model.specs.declared.Answered.{Answered}
pub use Rattle.model.specs.declared.Abandoned.{Abandoned}
pub use Rattle.model.specs.declared.Emptied.{Emptied}

-- what a route found for one send: its next hop and the address its device polls under, or the caller's code
abbrev pub Resolved : Type 0
Resolved = Result (ℕ × Address) ℕ
