pub mod MarkLemmas
mod PairLemmas
mod BitLemmas
mod ActiveLemmas
mod SideLemmas
mod IndexLemmas
mod SlotLemmas
mod GatherLemmas
