pub mod Showing
pub mod Listings
pub mod Taking
pub mod Overwritten
pub mod Growing
pub mod Keeping
mod Ordered
mod Comparing
mod Finding
mod Permuting
mod Zips
mod OutcomesTelling
