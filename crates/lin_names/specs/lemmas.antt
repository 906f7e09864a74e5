pub mod Begins
pub mod Printed
pub mod Sorted
