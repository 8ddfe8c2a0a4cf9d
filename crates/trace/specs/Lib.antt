-- How a trace is read.
pub mod Reading
