pub mod Letters
pub mod Pictures
pub mod Pieces
pub mod Labels
pub mod Fades
pub mod Fills
