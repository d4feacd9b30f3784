pub mod Compared
pub mod Differences
