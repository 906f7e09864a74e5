pub mod Branching
pub mod Branched
pub mod Knowing
pub mod Expanding
pub mod Merging
pub mod Choices
pub mod Gathering
pub mod ListedCompressed
