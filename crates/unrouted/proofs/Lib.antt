pub mod Turns
pub mod Lists
pub mod Exact
pub mod Ones
