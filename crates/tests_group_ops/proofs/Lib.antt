pub mod Permitting
pub mod Standing
pub mod Turning
