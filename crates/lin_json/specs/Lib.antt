pub mod Strings
pub mod Answers
pub mod Failures
pub mod Explanations
pub mod Unopened
