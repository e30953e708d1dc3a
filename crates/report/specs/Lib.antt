-- The definitions that the contracts cite.
pub mod Texts
pub mod Answers
pub mod Reports
pub mod Refusals
pub mod Told
pub mod Witnesses
pub mod Deciding
