pub mod SimTraces
pub mod SimTurns
pub mod SimEnds
mod SimLemmas
pub mod Rows
pub mod FedRows
