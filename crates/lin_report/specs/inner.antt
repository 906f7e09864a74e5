pub mod Asking
pub mod Engines
pub mod Still
