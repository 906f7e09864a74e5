pub mod Work
pub mod Chains
pub mod Exact
pub mod inner
