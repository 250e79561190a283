pub mod Space
pub mod Asked
pub mod Numbers
pub mod Taken
pub mod Faults
