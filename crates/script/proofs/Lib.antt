pub mod Cuts
pub mod Ascii
pub mod Checked
pub mod Progress
pub mod Unique
