-- Definitions that proofs and private functions need, and that nobody has to believe who believes
-- what the public calls say.
pub mod Parts
pub mod Reasons
pub mod Teams
pub mod Running
