pub mod Arrivals
pub mod Called
mod Changing
mod CutOff
pub mod Ended
mod Lists
mod OneCall
mod Standing
