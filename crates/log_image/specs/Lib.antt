pub mod Anchor
pub mod Overlay
pub mod OverlayLaws
pub mod Log
pub mod Step
pub mod Writes
pub mod Damage
