pub mod Balances
pub mod Ledger
pub mod Sample
pub mod CausesMoves
pub mod CausesTurns
pub mod Causes
pub mod Bell
