pub mod Table
pub mod Space
pub mod Legal
pub mod History
pub mod WellFormed
pub mod Replies
pub mod Handles
