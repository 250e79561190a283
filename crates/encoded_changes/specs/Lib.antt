pub mod Carry
pub mod Changes
