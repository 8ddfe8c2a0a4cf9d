pub mod Ticks
pub mod Entries
pub mod Scans
pub mod Bests
pub mod Wakes
pub mod Sanes
pub mod Bells
