-- The lemmas, each file after those that it uses.
pub mod Lines
pub mod Pairs
pub mod Gathered
pub mod Answering
pub mod Runs
pub mod Witnessing
pub mod Deciding
pub mod ToldDecided
