-- Definitions for proofs and private functions. No reader has to trust them.
pub mod Sizes
pub mod Measuring
pub mod Building
pub mod Descents
pub mod Wholes
pub mod Graphs
pub mod Agreeing
pub mod Walks
pub mod Ordered
pub mod TurnedCycles
pub mod CallGraphs
pub mod CallOrders
