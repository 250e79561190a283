pub mod Lists
pub mod Fitting
pub mod StepsKeep
pub mod Calls
pub mod Owners
