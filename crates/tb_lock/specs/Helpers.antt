-- Definitions for proofs and private functions. `Plays` has the view of a handle in contracts. A reader who trusts the program's call
-- needn't trust them.
pub mod Indices
pub mod Rule
pub mod Plays
