-- Definitions for proofs and private functions. Nobody has to trust them.
pub mod Making
