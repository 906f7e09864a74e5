pub mod Telling
pub mod Series
pub mod Lines
pub mod Groups
pub mod Sides
pub mod Surplus
pub mod Within
pub mod Reasons
