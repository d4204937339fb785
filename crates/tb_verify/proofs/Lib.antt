mod FollowedLemmas
pub mod VerdictLemmas
