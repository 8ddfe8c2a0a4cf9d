pub mod Types
pub mod Clock
pub mod Lent
pub mod Claims
