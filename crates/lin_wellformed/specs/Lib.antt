pub mod Tables
pub mod Scans
