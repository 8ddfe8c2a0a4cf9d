-- What the records of a trace are.
pub mod Kinds
pub mod Reader
