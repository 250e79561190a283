pub mod Chunks
pub mod Masks
pub mod Pages
pub mod PageLaws
