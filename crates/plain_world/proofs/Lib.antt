pub mod Leading
pub mod Moved
pub mod Firsts
pub mod Happening
