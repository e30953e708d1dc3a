-- The lemmas.
pub mod Telling
