-- Definitions that proofs and private functions need, and that you needn't trust.
pub mod Room
