pub mod Putting
pub mod lemmas
pub mod inner
