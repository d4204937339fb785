-- Definitions for proofs, for private functions, and for an error of `push_quoted`. A reader of the program's contract needn't trust them.
pub mod Prefixes
