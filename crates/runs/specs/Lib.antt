pub mod Accepted
pub mod Run
pub mod Examples
pub mod Shown
pub mod Compared
