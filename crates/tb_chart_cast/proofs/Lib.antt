pub mod BesideLemmas
