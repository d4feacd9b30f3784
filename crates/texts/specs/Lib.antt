pub mod Tokens
pub mod Scan
pub mod Verdicts
pub mod Sizes
pub mod Reading
