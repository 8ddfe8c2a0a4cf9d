pub mod UnicastRows
pub mod UnroutedRows
pub mod BroadcastRows
pub mod DestinationRows
pub mod Writes
