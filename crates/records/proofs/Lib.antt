pub mod Cases
pub mod Same
