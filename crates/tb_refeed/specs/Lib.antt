pub mod Feeding
pub mod Helpers
