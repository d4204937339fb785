pub mod FittingLemmas
pub mod Prefixes
pub mod NumberLemmas
pub mod OpenLemmas
pub mod OutputLemmas
pub mod PlainPatterns
pub mod PrintedText
pub mod StoreLemmas
