mod Behind
mod Freeing
mod Refused
mod Running
