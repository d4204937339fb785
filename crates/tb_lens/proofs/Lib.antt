pub mod Asking
pub mod Feedings
pub mod Reasons
pub mod Tellings
