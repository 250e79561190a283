pub mod Lists
pub mod Parts
pub mod Kept
pub mod StepsKeep
pub mod Making
pub mod Calls
