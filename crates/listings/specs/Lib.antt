-- What the listings are.
pub mod Types
pub mod Listings
pub mod Maps
