pub mod Types
pub mod Pick
pub mod Limits
pub mod Numbers
pub mod Priorities
pub mod Same
pub mod Records
pub mod Times
