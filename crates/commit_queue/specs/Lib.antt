pub mod Streams
pub mod Queued
pub mod Ends
