pub mod Members
pub mod Sampled
