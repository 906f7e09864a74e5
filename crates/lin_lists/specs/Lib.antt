pub mod Sets
pub mod lemmas
