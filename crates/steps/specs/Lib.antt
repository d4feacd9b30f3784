pub mod Ranges
pub mod Orders
pub mod Kinds
pub mod Rosters
pub mod Faults
pub mod Making
pub mod Lexical
pub mod Alike
