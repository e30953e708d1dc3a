-- The definitions that the contracts cite.
pub mod Faults
pub mod Buffers
pub mod Collectors
pub mod Verdicts
