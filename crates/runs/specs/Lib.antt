-- What a trace run is.
pub mod Run
pub mod Claims
pub mod Histories
