pub mod Barrings
pub mod Listings
pub mod Fillings
