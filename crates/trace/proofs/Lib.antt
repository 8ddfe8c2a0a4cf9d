-- The laws of the count.
pub mod Counting
pub mod Counted
