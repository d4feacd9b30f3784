pub mod Net
pub mod Draw
pub mod Faults
pub mod Writing
pub mod Seating
pub mod Finding
pub mod Kinds
