pub mod Buckets
pub mod Walks
