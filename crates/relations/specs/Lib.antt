-- The examples, by what they are about.
pub mod Traces
pub mod Reorderings
pub mod Next
pub mod Rules
pub mod Closures
pub mod Orders
pub mod Buffers
pub mod Entries
pub mod Races
pub mod Runs
pub mod Texts
