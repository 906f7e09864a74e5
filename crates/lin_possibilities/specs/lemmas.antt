pub mod Ticks
pub mod Running
