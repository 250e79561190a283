pub mod Lists
pub mod Chains
pub mod Relinked
pub mod Steps
pub mod Linked
pub mod Walked
