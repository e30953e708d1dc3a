-- The definitions and statements that the contracts cite.
pub mod Limits
pub mod Faults
pub mod Records
pub mod Traces
pub mod Locks
pub mod Threads
pub mod Checks
pub mod Conflicts
pub mod Reorderings
pub mod Cuts
pub mod Lookups
pub mod Orders
pub mod Depths
pub mod ThreadTheorems
pub mod SyncTheorems
pub mod ClosureTheorems
pub mod OrderTheorems
