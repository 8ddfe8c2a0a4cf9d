-- What the fields of a body say.
pub mod Types
pub mod Bytes
pub mod Parts
