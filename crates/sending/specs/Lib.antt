pub mod Types
pub mod Rules
pub mod Lists
pub mod Members
pub mod Claims
