pub mod AtomLemmas
pub mod AscendLemmas
pub mod Places
pub mod Dropping
