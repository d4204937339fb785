pub mod Parts
pub mod Table
pub mod Words
pub mod Lines
pub mod Helpers
