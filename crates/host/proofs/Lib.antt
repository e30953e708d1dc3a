-- The lemmas, each file after those that it uses.
pub mod Hosted
pub mod Answering
