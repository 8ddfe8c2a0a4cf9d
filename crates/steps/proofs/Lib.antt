-- The laws of the steps.
pub mod Arms
pub mod Bridge
