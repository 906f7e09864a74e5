pub mod Fields
pub mod Reads
pub mod Small
pub mod Usual
pub mod Rests
pub mod Passing
