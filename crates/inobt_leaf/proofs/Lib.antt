pub mod OneBit
pub mod Places
pub mod Changes
pub mod Tables
pub mod Whole
pub mod Gathering
pub mod Ordering
