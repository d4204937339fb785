pub mod Simulation
pub mod Helpers
