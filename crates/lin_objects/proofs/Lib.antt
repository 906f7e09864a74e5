pub mod Lookups
pub mod Stepping
pub mod Taken
