pub mod Commits
pub mod Running
pub mod Fresh
pub mod Calls
pub mod Decisions
