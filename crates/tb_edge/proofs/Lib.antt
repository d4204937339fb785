pub mod FaultCounts
pub mod Puts
mod Transfers
