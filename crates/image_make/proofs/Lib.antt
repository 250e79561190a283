pub mod Blank
mod Parts
mod Putting
mod Places
mod Maps
mod Finished
mod Leaving
mod Sectors
mod Super
