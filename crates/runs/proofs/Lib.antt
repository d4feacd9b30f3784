pub mod Runs
pub mod Checking
pub mod Examples
pub mod Shown
