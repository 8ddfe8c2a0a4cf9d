-- What the replies are.
pub mod Types
pub mod Replies
