-- The definitions that the contracts cite.
pub mod Sizes
pub mod Reading
pub mod Statuses
