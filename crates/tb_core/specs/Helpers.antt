-- Definitions for proofs, private functions, and the contracts of `LiveBus` and of `Core::bus`. A reader of the other contracts of a core
-- doesn't need to trust them.
pub mod Makings
pub mod LiveBuses
