pub mod Names
pub mod Sorted
pub mod Spelled
pub mod lemmas
