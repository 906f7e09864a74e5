pub mod Lists
pub mod Rising
pub mod Filters
pub mod Elements
pub mod Taken
