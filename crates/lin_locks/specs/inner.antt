pub mod Latest
pub mod Known
pub mod Changes
pub mod Room
pub mod Debts
pub mod Sides
pub mod Fillings
pub mod Turns
