pub mod Views
pub mod Refusals
pub mod Outcomes
pub mod Helpers
