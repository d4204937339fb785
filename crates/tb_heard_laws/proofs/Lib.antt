pub mod Meanings
pub mod Waiting
pub mod Hearing
pub mod Takings
