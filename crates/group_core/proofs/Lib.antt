pub mod Histories
pub mod Changes
