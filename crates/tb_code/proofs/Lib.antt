pub mod EntryLemmas
pub mod Parts
pub mod Rows
pub mod Tables
