pub mod Plays
pub mod Found
pub mod Ones
