pub mod Scopes
pub mod Exprs
pub mod Acts
pub mod Expansion
pub mod Cycles
pub mod Faults
pub mod Lines
pub mod Helpers
