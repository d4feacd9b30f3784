pub mod Pieces
pub mod Listed
pub mod Lines
pub mod Naming
pub mod Within
pub mod Telling
pub mod Tagging
