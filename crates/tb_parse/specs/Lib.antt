pub mod Faults
pub mod Helpers
pub mod Lines
