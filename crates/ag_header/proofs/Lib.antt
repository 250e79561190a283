pub mod HeadBytes
pub mod Encoded
