pub mod Picks
pub mod Held
