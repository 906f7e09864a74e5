pub mod StatusLemmas
pub mod Causes
pub mod ShapeLemmas
pub mod Deciding
pub mod Alternating
pub mod OneMore
pub mod Rising
