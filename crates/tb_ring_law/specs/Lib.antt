pub mod Ends
pub mod Helpers
