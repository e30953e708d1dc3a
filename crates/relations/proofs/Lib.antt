-- The lemmas, each file after those that it uses.
pub mod Tracing
pub mod Reordering
pub mod Coming
pub mod Wanting
pub mod Closing
pub mod Ordering
pub mod Buffering
pub mod Entering
pub mod Racing
pub mod Partnering
pub mod Sweeping
pub mod Running
pub mod Printing
