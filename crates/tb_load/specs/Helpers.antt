-- Definitions that proofs and private functions need. A reader who trusts the public calls needn't trust them.
pub mod Parts
