pub mod Lines
pub mod SendLemmas
pub mod Shaping
