pub mod Spelt
pub mod Expanded
pub mod Tools
