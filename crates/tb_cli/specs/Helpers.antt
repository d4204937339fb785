-- Definitions that proofs and private functions need. Nobody has to trust them.
pub mod Tables
pub mod Scanning
pub mod Fitting
