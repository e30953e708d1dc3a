-- The definitions that the contracts cite.
pub mod States
pub mod Entries
pub mod Questions
pub mod Races
pub mod LoadTheorems
