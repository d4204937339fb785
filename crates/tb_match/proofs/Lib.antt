pub mod Grouping
pub mod Least
pub mod Once
pub mod Parts
