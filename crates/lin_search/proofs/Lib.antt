pub mod Ticks
pub mod Witnesses
