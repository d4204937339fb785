pub mod Marks
pub mod Indexes
pub mod Helpers
