-- The declared types that the rules of unrouted sends speak of, under one name.
pub use Rattle.records.specs.declared.Priority.{Priority}
pub use Rattle.records.specs.declared.Confirm.{Confirm}
pub use Rattle.records.specs.declared.Unrouted.{Unrouted}
pub use Rattle.records.specs.declared.Destination.{Destination}
pub use Rattle.records.specs.declared.SendFailure.{SendFailure}
pub use Rattle.records.specs.declared.SendFailure.TheVariants.{HandoffTimeout, RouteDiscoveryTimeout, Cancelled}
pub use Rattle.records.specs.declared.Verdict.TheVariants.{Failure}
pub use Rattle.tables.specs.declared.unrouted_rows.UnroutedHead.{UnroutedHead}
pub use Rattle.unrouted.specs.declared.Which.{Which}
pub use Rattle.unrouted.specs.declared.Which.TheVariants.{Lapsed, Bound}
pub use Rattle.unrouted.specs.declared.Retry.{Retry}
pub use Rattle.unrouted.specs.declared.Retry.TheVariants.{NotHeld, Declined, Granted}
