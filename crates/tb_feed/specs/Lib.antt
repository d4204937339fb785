pub mod Feeds
pub mod Helpers
pub mod Lines
