-- Definitions that only proofs and private functions use. Nobody has to trust them.
pub mod Writing
