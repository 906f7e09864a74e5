pub mod ExactSets
pub mod Working
pub mod Chaining
