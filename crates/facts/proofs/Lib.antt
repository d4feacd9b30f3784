pub mod Agreeing
pub mod Steps
pub mod Reading
pub mod Listings
pub mod PlaceGroups
pub mod Moves
pub mod Law
pub mod Asking
