-- The definitions that the contracts cite.
pub mod Hosts
pub mod Examples
