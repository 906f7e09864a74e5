pub mod Checking
pub mod Merging
pub mod Tables
