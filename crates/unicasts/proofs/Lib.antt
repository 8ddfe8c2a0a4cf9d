pub mod Tables
pub mod Ones
