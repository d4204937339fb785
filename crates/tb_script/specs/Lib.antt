pub mod Programs
pub mod Findings
pub mod Loading
pub mod Lines
pub mod Helpers
