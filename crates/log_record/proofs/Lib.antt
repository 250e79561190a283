pub mod Pieces
pub mod Encoded
pub mod Window
pub mod Images
pub mod Whole
pub mod WholeLaws
