-- Definitions for proofs and private functions. A reader of the contracts of public calls needn't trust them.
pub mod Answers
pub mod Building
pub mod Limits
pub mod Stacks
