pub mod Bytes
pub mod TextEnds
