pub mod Parts
pub mod Completeness
mod OneLog
pub mod Summaries
pub mod AskedRings
mod SparseSims
pub mod Headlines
