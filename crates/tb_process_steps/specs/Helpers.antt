-- Definitions for proofs and private functions, and `waited`, which the theorem `right_sides_wait` uses. A reader who trusts the program's
-- call needn't trust them.
pub mod Candidates
pub mod Selections
pub mod Plans
pub mod Rewritings
pub mod Runnings
pub mod OfferViews
