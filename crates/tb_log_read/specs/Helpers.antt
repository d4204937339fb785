-- Definitions for proofs and private functions. Nobody has to trust them.
pub mod Cutting
pub mod Entries
pub mod Numbers
pub mod Parts
pub mod Terms
pub mod Unescaping
pub mod Words
