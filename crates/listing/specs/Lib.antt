pub mod Page
pub mod Listed
pub mod Pieces
pub mod Faults
pub mod Drawn
