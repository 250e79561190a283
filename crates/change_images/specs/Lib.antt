pub mod Candidates
pub mod Enough
