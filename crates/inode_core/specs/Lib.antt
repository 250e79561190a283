pub mod Cores
pub mod CoreLaws
pub mod Reading
