pub mod Beginnings
pub mod Events
pub mod Picks
pub mod Legality
