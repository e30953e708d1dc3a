-- The lemmas, each file after those that it uses.
pub mod Reels
pub mod Stored
pub mod Lent
pub mod Hosts
pub mod Boards
pub mod Left
