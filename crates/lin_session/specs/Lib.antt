pub mod Known
pub mod Leaving
pub mod Work
pub mod Marks
pub mod Objects
pub mod Sessions
pub mod Refuting
pub mod inner
