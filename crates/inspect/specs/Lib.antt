pub mod Faults
pub mod FirstSectors
pub mod Inspected
