pub mod Following
pub mod Encoded
pub mod Fitting
pub mod Parts
