-- Definitions that proofs and private functions need. A reader who trusts the program's call needn't trust them.
pub mod Goings
pub mod Numbers
pub mod Partings
pub mod Places
pub mod Reads
pub mod Rests
pub mod Sights
pub mod Takings
