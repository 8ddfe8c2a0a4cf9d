-- The laws of the records of a trace.
pub mod Table
pub mod Bodies
pub mod Reading
