pub mod Blocks
pub mod Bitmap
pub mod Words
