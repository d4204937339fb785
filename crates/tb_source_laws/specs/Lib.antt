pub mod Disrupts
