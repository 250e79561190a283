mod Armed
mod Freed
mod ComeUp
mod StayDown
mod Untouched
pub mod Tells
pub mod CallTells
pub mod EndTells
mod Idle
pub mod GroupCounts
pub mod Begun
pub mod Noted
pub mod Made
pub mod Stops
pub mod Runs
mod Unmounts
pub mod RunTells
