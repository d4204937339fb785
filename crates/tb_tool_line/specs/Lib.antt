pub mod Sending
pub mod ToolLines
