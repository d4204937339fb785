pub mod Positions
pub mod Entries
pub mod Helpers
