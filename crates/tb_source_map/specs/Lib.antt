pub mod Marks
pub mod Places
pub mod Sites
pub mod Spots
