pub mod Encoding
pub mod Whole
pub mod Payload
pub mod Outline
pub mod Numbers
