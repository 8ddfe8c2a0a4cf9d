pub mod Types
pub mod Bytes
pub mod Items
