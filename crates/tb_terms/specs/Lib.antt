pub mod Names
pub mod Proper
pub mod Same
pub mod Sizes
pub mod Sorts
pub mod Texts
pub mod Helpers
