pub mod Named
pub mod Tells
