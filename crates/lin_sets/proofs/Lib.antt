mod Finding
mod Putting
mod Learning
mod Standing
mod Fitting
mod OneEvent
mod Free
mod Pushing
mod Returning
mod Refusing
mod Failing
mod Whole
mod Next
mod Forgetting
mod Removing
mod Undoing
mod Acting
mod Undone
mod Same
mod Merging
mod Beyond
pub mod Ordered
pub mod Most
pub mod Chained
pub mod Timing
pub mod Acts
pub mod Answering
pub mod Legal
pub mod Refuting
pub mod Numbering
pub mod Making
pub mod Sorting
pub mod ConflictsStanding
