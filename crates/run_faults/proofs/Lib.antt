pub mod Telling
pub mod Downs
