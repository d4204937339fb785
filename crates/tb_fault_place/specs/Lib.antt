pub mod Calls
pub mod FaultNames
pub mod Points
pub mod Standing
