pub mod News
pub mod Log
pub mod Told
pub mod Progress
