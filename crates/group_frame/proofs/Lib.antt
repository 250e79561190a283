pub mod Agree
pub mod Calls
pub mod Alone
pub mod Holds
