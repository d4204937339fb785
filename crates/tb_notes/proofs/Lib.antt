pub mod Finding
pub mod Ordering
pub mod Subscribing
pub mod Walking
