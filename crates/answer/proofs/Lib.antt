-- The lemmas.
pub mod Collecting
