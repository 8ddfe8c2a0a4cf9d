-- The laws of a replay.
pub mod Claimed
pub mod Judged
