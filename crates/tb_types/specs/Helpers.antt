-- Definitions for proofs and private functions. No reader has to trust them.
pub mod Faults
pub mod First
pub mod Seen
pub mod Tools
