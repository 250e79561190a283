pub mod Bits
pub mod Ranges
pub mod Maps
pub mod Loading
pub mod Counting
pub mod Bitmaps
pub mod Runs
