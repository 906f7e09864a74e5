pub mod Replaying
pub mod Lanes
pub mod Cutting
pub mod Exacts
pub mod Ticks
pub mod Splits
pub mod Growing
