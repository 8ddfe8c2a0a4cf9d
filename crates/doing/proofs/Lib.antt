pub mod Doings
pub mod Enters
pub mod Ones
