-- What the events of a trace are.
pub mod Types
pub mod Arrivals
pub mod Signals
pub mod Routes
pub mod Events
