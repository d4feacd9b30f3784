pub mod Climbs
pub mod Firsts
pub mod Naming
pub mod Numbers
