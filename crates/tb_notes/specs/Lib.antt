pub mod Inboxes
pub mod Oldest
