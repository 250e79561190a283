pub mod ByPath
pub mod Passing
pub mod Picked
pub mod Replay
