pub mod Rights
pub mod Histories
pub mod Seats
pub mod Calls
pub mod Helpers
