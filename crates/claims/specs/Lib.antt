pub mod Ledger
pub mod CausesTypes
pub mod Causes
pub mod Bell
