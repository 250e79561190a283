pub mod Words
pub mod Known
pub mod Rule
pub mod Steps
pub mod Ends
pub mod Replies
pub mod Laws
