pub mod Sets
pub mod Keys
pub mod Search
pub mod Flat
pub mod Promises
pub mod Held
pub mod Answers
pub mod Chains
