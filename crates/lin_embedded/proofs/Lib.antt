mod Handed
mod Printed
mod Told
pub mod AsBox
pub mod Reading
pub mod RecorderAsking
