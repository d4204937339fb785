pub mod Parts
pub mod Completeness
pub mod TwoLogs
pub mod Headlines
