-- The lemmas, each file after those that it uses.
pub mod Entering
pub mod Closing
pub mod Asking
pub mod Sweeping
pub mod Judging
pub mod Vetting
