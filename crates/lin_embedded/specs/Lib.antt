pub mod Options
pub mod Calls
pub mod Sessions
pub mod Recorders
pub mod inner
pub mod Held
pub mod Handles
