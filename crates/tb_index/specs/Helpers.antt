-- Definitions for proofs and private functions. A reader of the contracts of public calls needn't trust them.
pub mod Pairs
pub mod Bits
pub mod Ties
pub mod Sides
