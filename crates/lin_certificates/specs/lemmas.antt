pub mod Conflicting
pub mod QueueConflicting
pub mod SetConflicting
pub mod Counting
pub mod BagConflicting
pub mod Standing
pub mod Overwriting
