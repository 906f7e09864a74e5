pub mod Endings
pub mod Exit
pub mod Program
pub mod Readings
pub mod Reporting
pub mod Tasks
pub mod CommandLine
