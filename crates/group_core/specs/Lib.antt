pub mod GroupHistory
pub mod Value
pub mod InCore
