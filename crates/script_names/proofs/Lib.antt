mod Bytes
mod Bound
