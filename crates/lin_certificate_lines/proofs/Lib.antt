pub mod Deciding
pub mod AllListed
pub mod Pairing
pub mod Premises
pub mod Counting
pub mod Chains
pub mod Stretches
