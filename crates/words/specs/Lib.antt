pub mod Words
pub mod Scan
pub mod Sizes
pub mod Reading
