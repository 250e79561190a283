pub mod Words
pub mod Pieces
pub mod Commands
pub mod Rules
pub mod Meaning
pub mod Reading
pub mod Scripts
pub mod Texts
