pub mod Acts
pub mod Exprs
pub mod InRange
pub mod Programs
pub mod Trees
