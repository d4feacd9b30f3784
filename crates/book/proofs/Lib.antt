pub mod Lay
pub mod Numbering
pub mod Feeds
pub mod Settled
pub mod SettledFeed
pub mod Voids
pub mod Together
