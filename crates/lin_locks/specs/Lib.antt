pub mod inner
pub mod Locks
