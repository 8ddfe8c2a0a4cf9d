pub mod Types
pub mod Model
pub mod Calls
pub mod Steps
pub mod Sound
pub mod Claims
