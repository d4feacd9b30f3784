pub mod Bits
pub mod Putting
pub mod Shown
pub mod Seats
pub mod Seated
pub mod Settled
