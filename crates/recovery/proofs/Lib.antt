pub mod Entries
pub mod Places
pub mod Chains
pub mod Breaks
pub mod Read
pub mod Puts
pub mod Recovering
pub mod Shown
