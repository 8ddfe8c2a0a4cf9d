-- The declared types and their variants under one name.
pub use Rattle.clock.specs.declared.Clock.{Clock}
pub use Rattle.clock.specs.declared.in_place.Numbers.{Numbers}
