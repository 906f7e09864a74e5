pub mod Searching
pub mod Chains
