pub mod LaneLemmas
pub mod ReadLemmas
pub mod SizeLemmas
pub mod TextLemmas
mod KeptLemmas
mod MoveLemmas
mod Rows
mod StepLemmas
