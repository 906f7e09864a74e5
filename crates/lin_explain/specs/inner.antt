pub mod Fallen
pub mod Known
pub mod Laws
pub mod Own
