pub mod Shape
pub mod Superblock
pub mod Places
