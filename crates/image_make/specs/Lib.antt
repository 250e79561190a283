pub mod Empty
pub mod Outcome
