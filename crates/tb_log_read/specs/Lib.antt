pub mod Lines
pub mod Helpers
