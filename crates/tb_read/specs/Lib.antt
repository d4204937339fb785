pub mod Lexing
pub mod Positions
pub mod Reading
pub mod Scanning
pub mod Spelling
pub mod Tokens
pub mod Helpers
