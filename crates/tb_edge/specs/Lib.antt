pub mod Ends
pub mod Faults
pub mod FilesHeld
pub mod InMemory
pub mod Jobs
pub mod RealForms
pub mod Sinks
