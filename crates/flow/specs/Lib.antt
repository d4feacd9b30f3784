pub mod Flow
pub mod Facts
pub mod Means
pub mod Bits
pub mod Rows
pub mod Reading
