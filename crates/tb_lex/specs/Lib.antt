pub mod Faults
pub mod Gaps
pub mod Tokens
pub mod Lines
pub mod Helpers
