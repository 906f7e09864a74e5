pub mod Longer
pub mod Rising
pub mod Untagged
