pub mod Scans
mod Maps
