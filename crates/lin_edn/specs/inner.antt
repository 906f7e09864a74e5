pub mod Lanes
pub mod Levels
pub mod Machine
pub mod Numbers
pub mod Turns
pub mod Skimming
pub mod Scans
