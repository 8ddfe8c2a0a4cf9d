pub mod Examples
pub mod Writings
pub mod Sizes
pub mod Lists
