-- The laws of the listings and of the address map.
pub mod Examples
pub mod Puttings
pub mod Inserts
pub mod Pairings
