pub mod Acts
pub mod Finding
pub mod First
pub mod Inputs
pub mod Lanes
pub mod Numbers
pub mod Helpers
