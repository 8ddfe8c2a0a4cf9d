-- What a replay is.
pub mod Cases
pub mod Counting
pub mod Judging
pub mod Reading
