pub mod Visiting
pub mod Onward
