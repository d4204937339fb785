-- Definitions that proofs and private functions need. Nobody has to trust them.
pub mod Blanks
pub mod Twos
