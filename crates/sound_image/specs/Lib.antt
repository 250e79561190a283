pub mod Places
pub mod Reading
pub mod Rules
pub mod Damage
pub mod Encoding
pub mod Counts
pub mod Superblocks
