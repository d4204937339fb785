pub mod Cores
pub mod Full
pub mod Helpers
