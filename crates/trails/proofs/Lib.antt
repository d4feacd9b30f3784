pub mod Erasing
pub mod Sizes
