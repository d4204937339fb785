pub mod Nodes
pub mod Lengths
pub mod Examples
