pub mod Front
pub mod Damage
pub mod Represents
