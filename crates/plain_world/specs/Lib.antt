pub mod Telling
pub mod Worlds
pub mod Beginning
pub mod Refusals
pub mod Happenings
pub mod Answers
