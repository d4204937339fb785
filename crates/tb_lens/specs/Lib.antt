pub mod Fed
pub mod Loads
pub mod Statuses
pub mod Told
