pub mod Lines
pub mod Running
pub mod Mounting
pub mod Stopping
pub mod Calling
pub mod Unmounting
pub mod Faults
