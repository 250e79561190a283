pub mod Runs
pub mod Forks
pub mod Reading
pub mod Inodes
