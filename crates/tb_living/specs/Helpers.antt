-- Definitions for proofs and private functions. A reader of the contracts doesn't need to trust them.
pub mod Parts
pub mod Orders
