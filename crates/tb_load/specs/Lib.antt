pub mod Loading
pub mod Helpers
