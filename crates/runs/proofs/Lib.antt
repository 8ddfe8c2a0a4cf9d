-- The laws of the run.
pub mod Callers
pub mod Running
pub mod Claims
pub mod Histories
pub mod Examples
