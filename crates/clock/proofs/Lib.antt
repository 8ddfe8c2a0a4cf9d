pub mod Wraps
pub mod Steps
pub mod Runs
