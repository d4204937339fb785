pub mod Agreeing
pub mod Joining
pub mod Matches
