-- The lemmas, each file after those that it uses.
pub mod Members
pub mod Writes
pub mod Coming
pub mod Agreeing
pub mod Acquires
pub mod Before
