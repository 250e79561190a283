pub mod Safe
pub mod Calls
pub mod Ends
