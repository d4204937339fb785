pub mod Some
pub mod Sorted
