pub mod Edits
pub mod Answers
pub mod Keys
