pub mod Times
pub mod FreeSets
pub mod Masks
pub mod Records
pub mod Unused
pub mod Keyed
pub mod Placed
pub mod Follows
