-- The lemmas, each file after those that it uses.
pub mod Bounds
pub mod Lacking
pub mod Growth
pub mod Holding
pub mod Seeding
pub mod Finding
pub mod Inside
pub mod ReadParts
pub mod LockParts
pub mod ClashParts
pub mod EarlierParts
pub mod ThreadParts
pub mod RuleParts
pub mod Tests
pub mod RuleTests
pub mod Existence
pub mod RuleClosures
