pub mod Choosing
pub mod Dismissing
pub mod Keeping
pub mod Lowest
pub mod Numbering
pub mod Oldest
pub mod Reading
pub mod Staying
