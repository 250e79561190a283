mod Unique
mod Damages
mod Standing
