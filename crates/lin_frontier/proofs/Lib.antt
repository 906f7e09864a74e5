pub mod TriedOnce
pub mod Outcomes
pub mod Entries
pub mod Marking
pub mod PendingAfter
pub mod Freshening
pub mod Marks
pub mod Holding
