-- What a turn is.
pub mod Types
pub mod World
pub mod Answering
pub mod Gathered
pub mod Turns
