-- Definitions for proofs and private functions. A reader who trusts the contracts of the public calls doesn't have to trust them.
pub mod KeptLogs
pub mod StepText
