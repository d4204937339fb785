-- Definitions that proofs and private functions need. A reader who trusts the program's call
-- needn't trust them.
pub mod Parts
