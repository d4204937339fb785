pub mod Lives
pub mod Holdings
pub mod Indexes
pub mod Ticking
pub mod Spoken
pub mod Helpers
