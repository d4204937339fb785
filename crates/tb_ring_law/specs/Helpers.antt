-- Definitions that proofs and private functions need. A reader who trusts the public call needn't trust them.
pub mod Pieces
pub mod Trees
pub mod Bodies
pub mod Buses
