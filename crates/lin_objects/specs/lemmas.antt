pub mod Order
pub mod Bags
pub mod Counted
pub mod Outs
