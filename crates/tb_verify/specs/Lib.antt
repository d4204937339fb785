pub mod Verdicts
pub mod Helpers
