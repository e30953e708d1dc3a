-- The lemmas, each file after those that it uses.
pub mod Entries
pub mod Moved
pub mod Loads
pub mod Taking
pub mod Lengths
pub mod Loading
pub mod Asked
pub mod Racing
pub mod Listings
pub mod Partnering
pub mod Sweeping
pub mod Viewing
