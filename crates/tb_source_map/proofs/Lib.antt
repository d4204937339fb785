pub mod Comings
pub mod MarkLemmas
pub mod Owns
pub mod SpotLemmas
