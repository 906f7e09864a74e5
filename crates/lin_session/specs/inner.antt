pub mod Judgements
pub mod Objects
