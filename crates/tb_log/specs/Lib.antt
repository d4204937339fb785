pub mod Lanes
pub mod Limits
pub mod LogText
pub mod Logs
pub mod Proper
pub mod Seens
pub mod Shapes
pub mod Helpers
