pub mod Lists
pub mod Rows
pub mod Tables
pub mod Moves
