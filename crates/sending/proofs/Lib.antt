pub mod Turns
pub mod Bars
pub mod Claims
pub mod Members
pub mod Bells
