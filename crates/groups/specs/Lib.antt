pub mod Groups
pub mod Listings
pub mod Faults
pub mod Rows
pub mod Found
pub mod Search
pub mod Sorting
pub mod Told
