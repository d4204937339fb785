pub mod Outlines
pub mod Interfaces
pub mod PatternTexts
pub mod Hearing
pub mod Handing
