pub mod WalkerUses
