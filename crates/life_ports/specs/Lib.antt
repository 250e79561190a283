pub mod Adapters
pub mod Errors
pub mod FaultPlan
pub mod Faults
pub mod MemorySink
pub mod MemorySource
