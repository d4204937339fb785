pub mod Lefts
pub mod WalkViews
pub mod Helpers
