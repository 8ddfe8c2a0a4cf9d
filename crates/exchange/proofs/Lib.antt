-- The laws of a turn.
pub mod Arms
pub mod Answers
pub mod Listings
pub mod Worlds
pub mod Somes
