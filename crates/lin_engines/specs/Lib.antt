pub mod Ends
pub mod Engines
pub mod Lanes
pub mod Exacts
pub mod Replays
pub mod Witnessing
pub mod lemmas
pub mod Witnesses
