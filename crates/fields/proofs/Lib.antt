-- The laws of numbers out of bytes.
pub mod Widths
pub mod Zeros
