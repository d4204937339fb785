-- Definitions that proofs and private functions need. A reader who trusts what the public calls say needn't trust them.
pub mod Pipes
pub mod Settling
pub mod Writing
pub mod Reading
pub mod Ticking
