-- Definitions that proofs and private functions need. A reader who trusts what the public calls say needn't trust them.
pub mod Working
pub mod Ticking
pub mod Desks
