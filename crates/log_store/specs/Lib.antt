pub mod State
pub mod OnDisk
pub mod Landed
pub mod Calls
pub mod Steps
pub mod Outcome
pub mod Actions
pub mod Spare
