pub mod Inodes
pub mod Codes
pub mod Caches
pub mod Flush
pub mod Numbers
