pub mod Chunks
pub mod Spaces
pub mod Outcomes
pub mod Kept
