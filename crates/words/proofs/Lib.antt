pub mod Turns
pub mod Forms
pub mod Stripping
pub mod Runs
pub mod Complete
pub mod Sound
pub mod Stuck
pub mod Understanding
