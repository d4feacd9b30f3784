pub mod Jobs
pub mod Faults
pub mod View
pub mod Enter
pub mod Feed
