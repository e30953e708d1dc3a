-- The lemmas.
pub mod Decided
