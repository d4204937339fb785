pub mod Scanning
pub mod Fitting
pub mod Rows
pub mod Built
pub mod Examples
pub mod PairExamples
pub mod Ranges
