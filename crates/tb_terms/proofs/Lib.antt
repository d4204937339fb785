pub mod Induction
pub mod Joined
pub mod LimitLemmas
pub mod SameLemmas
pub mod TextBytes
pub mod TextLengths
