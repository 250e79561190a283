pub mod Inodes
pub mod Maps
pub mod Told
pub mod Flushes
pub mod Bits
