-- The laws of the events.
pub mod Sixteen
pub mod Claims
