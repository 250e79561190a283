pub mod Moves
pub mod Making
