pub mod FeedLemmas
pub mod LaneNumbers
pub mod LineLemmas
pub mod Roads
mod Rows
