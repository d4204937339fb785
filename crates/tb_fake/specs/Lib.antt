pub mod Fakes
pub mod Pairs
