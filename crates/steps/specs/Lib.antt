-- What one event of a trace does.
pub mod Types
pub mod Applied
