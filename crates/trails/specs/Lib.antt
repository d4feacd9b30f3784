pub mod Faults
pub mod Jobs
pub mod Erased
pub mod Told
