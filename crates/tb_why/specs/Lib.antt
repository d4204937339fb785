pub mod Standing
pub mod Formats
pub mod Tools
pub mod Reasons
pub mod Ends
pub mod Possible
pub mod Failing
pub mod Helpers
