pub mod Types
pub mod Codes
