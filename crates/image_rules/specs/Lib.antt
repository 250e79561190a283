pub mod Shown
pub mod Faults
pub mod Taking
pub mod Gathered
pub mod Listing
pub mod Counted
