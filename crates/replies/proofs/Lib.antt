-- The laws of the replies.
pub mod Examples
pub mod Backs
pub mod Parts
